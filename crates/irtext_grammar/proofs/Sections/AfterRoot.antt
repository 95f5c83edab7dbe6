-- A section can follow the root that it is written for.
use Rattle.std.specs.Prelude.{◌≡◌, ℕ, Bool, true, false, cond, List, [], ◌∷◌, ◌++◌, length, refl, Option, Some, None, ⊤}
use Rattle.std.proofs.Common.{inl, inr, subst, true≢false, sym, ◌∙◌}
use Rattle.irtext_base.specs.Text.{Text}
use Rattle.irtext_base.specs.Format as format
use Rattle.irtext_base.specs.Format.{Format, Id, c7}
use Rattle.irtext_base.specs.Own.{Language}
use Rattle.irtext_grammar.specs.Grammar.Forest.{Regions, no_regions, region, Blocks, regions_list}
use Rattle.irtext_grammar.specs.Grammar.Tree.{Mark, Op, Head, Brace}
use Rattle.irtext_grammar.specs.Graphs.Graph.{Graph, GraphOp, GraphBlock, Printing, Entry, Limit, written, tree_regions, is_marked, is_elided, entries_of, op_outlined}
use Rattle.irtext_grammar.specs.Spelling.Section.{section}
use Rattle.irtext_grammar.specs.Graphs.Closed.{Fit, FitsFormat}
use Rattle.irtext_grammar.specs.Spelling.Writable.{AfterOperation, AfterRoot, has_region}
use Rattle.irtext_grammar.proofs.Graphs.FitsFormat.{meets}

module _ {T A : Type 0} (C : Printing T A) (isolated : Id → Bool) (L : Language ⊤ T A) (formats : (i : Id) → L.format_of i ≡ C.format_of i) where
  regions_last : (f : Option Format) (o : GraphOp T A) (n : ℕ) → FitsFormat C isolated f o n → (ds : List format.Directive) → f ≡ Some (format.custom ds) → c7 ds ≡ true
  regions_last f o n h ds e = let k = subst (λ f. FitsFormat C isolated f o n) e h in (meets ds k.0).seventh

  -- an unmarked root has an entry in its regions alone
  deep : (l : Limit) (o : GraphOp T A) (rs : Regions (GraphOp T A) (GraphBlock T A) ⊤) (n : ℕ) (e : Entry C) (es : List (Entry C)) → is_marked C o.location (op_outlined C o) ≡ false
      → entries_of C l (record { own = o; regions = rs }) ≡ e ∷ es → has_region (tree_regions C l n rs) ≡ true
  deep l o no_regions n e es m q = absurd (no_entry (is_marked C o.location (op_outlined C o)) _ m q)
    where
      no_entry : (b : Bool) (x : Entry C) → b ≡ false → cond b (x ∷ []) [] ≡ e ∷ es → ⊥
      no_entry true x m q = true≢false m
      no_entry false x m q = cc q
  deep l o (region r bs rs) n e es m q = go (is_elided C l) _ _ _ _ _ _
    where
      go : (b : Bool) (x y : Brace ⊤) (bs cs : Blocks (Op ⊤ T A) (Head ⊤ T A) (Brace ⊤)) (rs ss : Regions (Op ⊤ T A) (Head ⊤ T A) (Brace ⊤)) → has_region (cond b (region x bs rs) (region y cs ss)) ≡ true
      go true x y bs cs rs ss = refl
      go false x y bs cs rs ss = refl

  unmarked : (n : ℕ) (b : Bool) → (let m : Option (Mark ⊤) = cond b (Some (record { place = tt; index = n })) None in m ≡ None) → b ≡ false
  unmarked n true e = absurd (cc e)
  unmarked n false e = refl

  -- the root's text is followed by its section, or, if it has none, by what can follow any operation
  pub section_after : (l : Limit) (g : Graph T A) (f : Text) → Fit C isolated g → AfterOperation (written C l g).own.mark f
      → AfterRoot L (written C l g) (section L C (entries_of C l g) ++ f)
  section_after l g f fit h = go (entries_of C l g) refl
    where
      go : (es : List (Entry C)) → entries_of C l g ≡ es → AfterRoot L (written C l g) (section L C es ++ f)
      go [] e = record { ends = h.ends; one = λ m. inl (h.one m) }
      go (x ∷ es) e = record {
        ends = inr refl;
        one = λ m. inr (
          record {
            has_one = deep l g.own g.regions 0 x es (unmarked _ (is_marked C g.own.location (op_outlined C g.own)) m) e;
            regions_last = λ ds q. regions_last (C.format_of g.own.id) g.own (length (regions_list g.regions)) fit.0 ds (sym (formats g.own.id) ∙ q);
          },
          inr refl,
        );
      }
