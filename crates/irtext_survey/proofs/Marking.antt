-- What is noted of a root says whether its tree has a mark.
use Rattle.std.proofs.Common.{◌≡◌, ◌∙◌, ℕ, Bool, true, false, ◌||◌, List, [], ◌∷◌, Option, refl, sym, ap, is_some}
use Rattle.std.specs.Prelude.{⊤}
use Rattle.irtext_base.specs.Text.{Text}
use Rattle.irtext_base.specs.Format.{Format, Id}
use Rattle.irtext_grammar.specs.Grammar.Forest.{Regions, no_regions, region, Blocks, no_blocks, block, Operations, no_operations, operation}
use Rattle.irtext_grammar.specs.Grammar.Marked.{regions_marked, blocks_marked, operations_marked, marked}
use Rattle.irtext_grammar.specs.Grammar.Tree as tree
use Rattle.irtext_grammar.specs.Grammar.Tree.{Part, Op, Head, Brace, shown, elided, Tree, parts_of}
use Rattle.irtext_grammar.specs.Reached.{Actions, region_parts, each_of, do_parts, do_operation, do_regions, do_blocks, do_operations, do_tree}
use Rattle.irtext_grammar.specs.Spelling.Spellable.{Enough}
use Rattle.irtext_grammar.proofs.Seen.{Shows, shows_tree}
use Rattle.irtext_grammar.proofs.Whole.{HasParts, WholeRegions, WholeBlocks, WholeOperations, IsWhole}
use Rattle.irtext_survey.specs.Notes.{Noted, noter}

or_none : (a : Bool) → (a || false) ≡ a
or_none true = refl
or_none false = refl

or_more : (a b c : Bool) → ((a || b) || c) ≡ (a || (b || c))
or_more true b c = refl
or_more false b c = refl

or_turned : (a b : Bool) → (a || b) ≡ (b || a)
or_turned true true = refl
or_turned true false = refl
or_turned false true = refl
or_turned false false = refl

-- whether a mark was met, alone
abbrev marker : {T A : Type 0} → Actions T A Bool
marker = record {
  uses = λ place id parts b. b;
  late = λ place id piece b. b;
  enters = λ iso b. b;
  leaves = λ iso place b. b;
  closes = λ place names id parts b. b;
  marks = λ mark b. b || is_some mark;
  heads = λ h b. b || is_some h.mark;
  any_key = true;
}

marker_shown : {T A : Type 0} (name : Text) → Shows {T = T} {A = A} (λ s. s.marked) (noter name) marker
marker_shown name = record {
  uses = λ place id parts s. refl;
  late = λ place id piece s. refl;
  enters = λ iso s. refl;
  leaves = λ iso place s. refl;
  closes = λ place names id parts s. refl;
  marks = λ mark s. refl;
  heads = λ h s. refl;
}

module _ {T A : Type 0} (formats : Id → Option Format) (isolated : Id → Bool) where
  abbrev does : Actions T A Bool
  does = marker {T = T} {A = A}

  -- each meets a mark exactly if its region has one
  abbrev EachMarks : List (Bool → Bool) → Regions (Op ℕ T A) (Head ℕ T A) (Brace ℕ) → Type 0
  EachMarks [] no_regions = ⊤
  EachMarks (f ∷ fs) (region brace bs rs) = ((b : Bool) → f b ≡ (b || blocks_marked bs)) × EachMarks fs rs
  EachMarks _ _ = ⊥

  each_marked : (fs : List (Bool → Bool)) (rs : Regions (Op ℕ T A) (Head ℕ T A) (Brace ℕ)) → EachMarks fs rs → (b : Bool) → each_of fs b ≡ (b || regions_marked rs)
  each_marked [] no_regions h b = sym (or_none b)
  each_marked [] (region brace bs rs) h b = absurd h
  each_marked (f ∷ fs) no_regions h b = absurd h
  each_marked (f ∷ fs) (region brace bs rs) h b = ap (each_of fs) (h.0 b) ∙ (each_marked fs rs h.1 (b || blocks_marked bs) ∙ or_more b (blocks_marked bs) (regions_marked rs))

  parts_marked : (place : ℕ) (id : Id) (ps : List (Part ℕ T A)) (fs : List (Bool → Bool)) (rs : Regions (Op ℕ T A) (Head ℕ T A) (Brace ℕ)) → Enough ps rs → EachMarks fs rs → (b : Bool) → do_parts isolated does place id ps fs b ≡ (b || regions_marked rs)
  parts_marked place id [] fs no_regions e h b = sym (or_none b)
  parts_marked place id [] fs (region brace bs rs) e h b = absurd e
  parts_marked place id (tree.piece p ∷ ps) fs rs e h b = parts_marked place id ps fs rs e h b
  parts_marked place id (tree.region i ∷ ps) fs no_regions e h b = absurd e
  parts_marked place id (tree.region i ∷ ps) [] (region brace bs rs) e h b = absurd h
  parts_marked place id (tree.region i ∷ ps) (f ∷ fs) (region brace bs rs) e h b =
      ap (do_parts isolated does place id ps fs) (h.0 b) ∙ (parts_marked place id ps fs rs e h.1 (b || blocks_marked bs) ∙ or_more b (blocks_marked bs) (regions_marked rs))
  parts_marked place id (tree.regions ∷ ps) fs rs e h b =
      ap (do_parts isolated does place id ps []) (each_marked fs rs h b) ∙ (parts_marked place id ps [] no_regions e tt (b || regions_marked rs) ∙ or_none (b || regions_marked rs))

  -- from the first region on there is a place for each region
  enough_left : (ps : List (Part ℕ T A)) (rs : Regions (Op ℕ T A) (Head ℕ T A) (Brace ℕ)) → Enough ps rs → Enough (region_parts ps) rs
  enough_left [] rs h = h
  enough_left (tree.piece p ∷ ps) rs h = enough_left ps rs h
  enough_left (tree.region i ∷ ps) rs h = h
  enough_left (tree.regions ∷ ps) rs h = h

  operation_marked : (o : Op ℕ T A) (fs : List (Bool → Bool)) (rs : Regions (Op ℕ T A) (Head ℕ T A) (Brace ℕ)) → HasParts formats o rs → EachMarks fs rs → (b : Bool) → do_operation isolated does o fs b ≡ (b || (is_some o.mark || regions_marked rs))
  operation_marked o fs rs w h b =
      ap (λ z. z || is_some o.mark) (parts_marked o.place o.id (region_parts (parts_of o.body)) fs rs (enough_left (parts_of o.body) rs w.1) h b)
      ∙ (or_more b (regions_marked rs) (is_some o.mark) ∙ ap (λ z. b || z) (or_turned (regions_marked rs) (is_some o.mark)))

  mutual
    regions_mark : (iso : Bool) (rs : Regions (Op ℕ T A) (Head ℕ T A) (Brace ℕ)) → WholeRegions formats rs → EachMarks (do_regions isolated does iso rs) rs
    regions_mark iso no_regions w = tt
    regions_mark iso (region elided bs rs) w = absurd w
    regions_mark iso (region (shown place) bs rs) w = (blocks_mark bs w.0, regions_mark iso rs w.1)

    blocks_mark : (bs : Blocks (Op ℕ T A) (Head ℕ T A) (Brace ℕ)) → WholeBlocks formats bs → (b : Bool) → do_blocks isolated does bs b ≡ (b || blocks_marked bs)
    blocks_mark no_blocks w b = sym (or_none b)
    blocks_mark (block h os bs) w b =
        ap (do_blocks isolated does bs) (operations_mark os w.0 (b || is_some h.mark))
        ∙ (blocks_mark bs w.1 ((b || is_some h.mark) || operations_marked os)
        ∙ (ap (λ z. z || blocks_marked bs) (or_more b (is_some h.mark) (operations_marked os)) ∙ or_more b (is_some h.mark || operations_marked os) (blocks_marked bs)))

    operations_mark : (os : Operations (Op ℕ T A) (Head ℕ T A) (Brace ℕ)) → WholeOperations formats os → (b : Bool) → do_operations isolated does os b ≡ (b || operations_marked os)
    operations_mark no_operations w b = sym (or_none b)
    operations_mark (operation o rs os) w b =
        ap (do_operations isolated does os) (operation_marked o (do_regions isolated does (isolated o.id) rs) rs w.0 (regions_mark (isolated o.id) rs w.1) b)
        ∙ (operations_mark os w.2 (b || (is_some o.mark || regions_marked rs))
        ∙ or_more b (is_some o.mark || regions_marked rs) (operations_marked os))

  -- after a tree, a mark was met exactly if one was met before or the tree has one
  tree_marked : (x : Tree ℕ T A) → IsWhole formats x → (b : Bool) → do_tree isolated does x b ≡ (b || marked x)
  tree_marked x w b = operation_marked x.own (do_regions isolated does (isolated x.own.id) x.regions) x.regions w.0 (regions_mark (isolated x.own.id) x.regions w.1) b

  -- what is noted of a tree says whether it has a mark
  pub marked_noted : (name : Text) (x : Tree ℕ T A) → IsWhole formats x → (s : Noted) → s.marked ≡ false → (do_tree isolated (noter name) x s).marked ≡ marked x
  marked_noted name x w s none = shows_tree isolated (λ (t : Noted). t.marked) (noter name) does (marker_shown name) x s ∙ (tree_marked x w s.marked ∙ ap (λ b. b || marked x) none)
