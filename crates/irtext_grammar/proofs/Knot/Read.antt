-- What the parsers of nested text parse is a tree that the grammar parses, and they have performed the actions of the tree.
use Rattle.std.proofs.Common.{◌≡◌, ◌∙◌, ℕ, zero, suc, Bool, true, false, cond, Option, List, [], ◌∷◌, ◌++◌, map, Some, codes, length, refl, sym, ap, ap₂, subst, arith, append_assoc, append-nil, true≢false}
use Rattle.std.specs.Prelude.{IfSome}
use Rattle.std.specs.Char.{is_whitespace}
use Rattle.irtext_base.specs.Text.{Text, begins, front, after_space}
use Rattle.irtext_base.specs.Reading.{Reading, the, literal, separated, repeated}
use Rattle.irtext_base.specs.Format.{Format, Id, Accepted}
use Rattle.irtext_base.specs.Answers.{Read}
use Rattle.irtext_base.specs.Locations.{AttrView}
use Rattle.irtext_base.specs.Own.{Texts}
use Rattle.irtext_base.proofs.Characters.{after_twice}
use Rattle.irtext_base.proofs.Numbers.{same_character}
use Rattle.irtext_context.specs.Dialects.{Table}
use Rattle.irtext_tokens.specs.Infix.{Reader, ◌▷◌}
use Rattle.irtext_tokens.specs.Tokens.{space_at, word}
use Rattle.irtext_grammar.specs.Contexts.Formats.{format_of, isolated, IsAccepted}
use Rattle.irtext_grammar.specs.Grammar.Forest.{Regions, no_regions, region, Blocks, no_blocks, block, Operations, no_operations, operation}
use Rattle.irtext_grammar.specs.Grammar.Reads as reads
use Rattle.irtext_grammar.specs.Grammar.Tree as tree
use Rattle.irtext_grammar.specs.Grammar.Tree.{Name, Mark, Piece, Part, Op, Head, Brace, shown, Tree, parts_of}
use Rattle.irtext_grammar.specs.Readers.RestLengths.{LeavesNoMore}
use Rattle.irtext_grammar.proofs.Joins.Answers.{followed_read}
use Rattle.irtext_grammar.proofs.Joins.Tokens.{text_read}
use Rattle.irtext_grammar.proofs.Locations.RestLengths.{space_bound}
use Rattle.irtext_grammar.specs.Exact.{IsOfStep, operation_lead}
use Rattle.irtext_grammar.specs.Heads.{Step, flat, types, one, all, steps_of, front_steps, region_steps, piece_at, head_at, led_at, mark_if_at, setting}
use Rattle.irtext_grammar.specs.Reached.{Reached, Advanced, came, tells, Actions, Reads, begins_operation, regions_by, more_by, operations_by, blocks_by, front_by, steps_by, end_by, body_by, operation_by, block_by, region_by, region_within, region_at, operation_at, front_parts, region_parts, each_of, do_parts, do_regions, do_blocks, do_operations, do_tree}
use Rattle.irtext_grammar.proofs.Exact.Head.{block_in_parts}
use Rattle.irtext_grammar.proofs.Knot.Alike.{Shrink}
use Rattle.irtext_grammar.proofs.Knot.Bound.{regions_loop, more_loop, blocks_loop, after_semicolon, semicolon_shrinks, shrunk, operations_agree, operation_agree, block_agree, within_shrinks, region_shrinks}
use Rattle.irtext_grammar.proofs.Knot.Heads.{l, ReadHeads}
use Rattle.irtext_grammar.proofs.Knot.Loops.{tells_read, came_read, Tells, RowRead, loop_read, repeated_tight, separate, repeated_more}
use Rattle.irtext_grammar.proofs.Knot.Steps.{ArePartsOf, ArePieces, EndsRegions, body_of_steps, ends_regions, steps_known}

-- steps that parse no region end their regions
pieces_end : (ss : List Step) → ArePieces ss → EndsRegions ss
pieces_end [] h = tt
pieces_end (flat d ∷ ss) h = pieces_end ss h
pieces_end (types ∷ ss) h = pieces_end ss h
pieces_end (one i ∷ ss) h = absurd h
pieces_end (all ∷ ss) h = absurd h

-- ---- forests that were parsed one after another
module _ {T A S : Type 0} (texts : Texts T) (owns : Texts A) (dialects : List (Text × Table)) (does : Actions T A S) where
  -- a region that is shown: its place, and its blocks
  abbrev Shown : Type 0
  Shown = ℕ × Blocks (Op ℕ T A) (Head ℕ T A) (Brace ℕ)

  abbrev region_of : Shown → Reading
  region_of x = reads.region_read (l texts owns dialects) (shown x.0) (reads.block_readings (l texts owns dialects) x.1)

  abbrev region_act : Bool → Shown → S → S
  region_act iso x s = does.leaves iso x.0 (do_blocks (isolated dialects) does x.1 (does.enters iso s))

  abbrev regions_from : List Shown → Regions (Op ℕ T A) (Head ℕ T A) (Brace ℕ)
  regions_from [] = no_regions
  regions_from (x ∷ xs) = region (shown x.0) x.1 (regions_from xs)

  regions_read_as : (xs : List Shown) → map region_of xs ≡ reads.region_readings (l texts owns dialects) (regions_from xs)
  regions_read_as [] = refl
  regions_read_as (x ∷ xs) = ap (λ rs. region_of x ∷ rs) (regions_read_as xs)

  regions_do : (iso : Bool) (xs : List Shown) → map (region_act iso) xs ≡ do_regions (isolated dialects) does iso (regions_from xs)
  regions_do iso [] = refl
  regions_do iso (x ∷ xs) = ap (λ rs. region_act iso x ∷ rs) (regions_do iso xs)

  -- a block: its header, and its operations
  abbrev Headed : Type 0
  Headed = Head ℕ T A × Operations (Op ℕ T A) (Head ℕ T A) (Brace ℕ)

  abbrev block_of : Headed → Reading
  block_of x = reads.block_read (l texts owns dialects) x.0 (reads.operation_readings (l texts owns dialects) x.1)

  abbrev block_act : Headed → S → S
  block_act x s = do_operations (isolated dialects) does x.1 (does.heads x.0 s)

  abbrev blocks_from : List Headed → Blocks (Op ℕ T A) (Head ℕ T A) (Brace ℕ)
  blocks_from [] = no_blocks
  blocks_from (x ∷ xs) = block x.0 x.1 (blocks_from xs)

  blocks_read_as : (xs : List Headed) → map block_of xs ≡ reads.block_readings (l texts owns dialects) (blocks_from xs)
  blocks_read_as [] = refl
  blocks_read_as (x ∷ xs) = ap (λ rs. block_of x ∷ rs) (blocks_read_as xs)

  blocks_do : (xs : List Headed) (s : S) → each_of (map block_act xs) s ≡ do_blocks (isolated dialects) does (blocks_from xs) s
  blocks_do [] s = refl
  blocks_do (x ∷ xs) s = blocks_do xs (block_act x s)

  abbrev operations_from : List (Tree ℕ T A) → Operations (Op ℕ T A) (Head ℕ T A) (Brace ℕ)
  operations_from [] = no_operations
  operations_from (x ∷ xs) = operation x.own x.regions (operations_from xs)

  operations_read_as : (xs : List (Tree ℕ T A)) → map (reads.reads (l texts owns dialects)) xs ≡ reads.operation_readings (l texts owns dialects) (operations_from xs)
  operations_read_as [] = refl
  operations_read_as (x ∷ xs) = ap (λ rs. reads.reads (l texts owns dialects) x ∷ rs) (operations_read_as xs)

  operations_do : (xs : List (Tree ℕ T A)) (s : S) → each_of (map (do_tree (isolated dialects) does) xs) s ≡ do_operations (isolated dialects) does (operations_from xs) s
  operations_do [] s = refl
  operations_do (x ∷ xs) s = operations_do xs (do_tree (isolated dialects) does x s)

-- ---- the parts of an operation
module _ {T A S : Type 0} (texts : Texts T) (owns : Texts A) (dialects : List (Text × Table)) (types_at : Reader T) (attr : Reader (AttrView A)) (does : Actions T A S)
    (heads : ReadHeads texts owns dialects types_at attr does.any_key) where
  -- a piece that was parsed after white space
  piece_read : (step : Step) (p : Piece ℕ T A) (text taken mid : Text) → (space_at ▷ piece_at types_at attr (setting true does.any_key) step) text ≡ Read p taken mid
      → IsOfStep step p × reads.piece (l texts owns dialects) p (after_space text) mid
  piece_read step p text taken mid e =
      let a = followed_read (space_at text) (λ _ t. piece_at types_at attr (setting true does.any_key) step t) p taken mid e in
      let spaced : a.middle ≡ after_space text = cc a.first in
      let k = heads.piece step a.middle p a.more mid a.second in
      (k.0, subst (λ t. reads.piece (l texts owns dialects) p t mid) spaced k.1)

  -- the parts before the first region and those from there on, put together
  record Joined (ss : List Step) (ps qs : List (Part ℕ T A)) (rs : List Reading) (text rest : Text) : Type 0 where
    pub fits : ArePartsOf (ps ++ qs) ss
    pub parts : reads.parts (l texts owns dialects) (ps ++ qs) rs text rest
    pub front : front_parts (ps ++ qs) ≡ ps
    pub following : region_parts (ps ++ qs) ≡ qs

  -- the parts that were parsed before the first region
  record FrontRead (ss : List Step) (found parts : List (Part ℕ T A)) (s t : S) (text mid : Text) : Type 1 where
    pub ps : List (Part ℕ T A)
    pub whole : parts ≡ found ++ ps
    pub same : t ≡ s
    pub joins : (qs : List (Part ℕ T A)) (rs : List Reading) (rest : Text) → ArePartsOf qs (region_steps ss) → reads.parts (l texts owns dialects) qs rs mid rest
        → Joined ss ps qs rs text rest

  front_end : (ss : List Step) (found parts : List (Part ℕ T A)) (s t : S) (text mid : Text)
      → ((qs : List (Part ℕ T A)) → ArePartsOf qs (region_steps ss) → ArePartsOf qs ss × (front_parts qs ≡ []) × (region_parts qs ≡ qs))
      → ◌≡◌ {A = Reached (List (Part ℕ T A)) S} (Advanced found s text) (Advanced parts t mid) → FrontRead ss found parts s t text mid
  front_end ss found parts s t text mid none e =
      let f : found ≡ parts = cc e in
      let g : s ≡ t = cc e in
      let h : text ≡ mid = cc e in
      record {
        ps = [];
        whole = sym f ∙ sym (append-nil found);
        same = sym g;
        joins = λ qs rs rest fit r. let k = none qs fit in
            record { fits = k.0; parts = subst (λ t. reads.parts (l texts owns dialects) qs rs t rest) (sym h) r; front = k.1; following = k.2 };
      }

  no_parts : (qs : List (Part ℕ T A)) → ArePartsOf qs [] → ArePartsOf qs [] × (front_parts qs ≡ []) × (region_parts qs ≡ qs)
  no_parts [] h = (tt, refl, refl)
  no_parts (q ∷ qs) h = absurd h

  one_part : (i : ℕ) (ss : List Step) (qs : List (Part ℕ T A)) → ArePartsOf qs (one i ∷ ss) → ArePartsOf qs (one i ∷ ss) × (front_parts qs ≡ []) × (region_parts qs ≡ qs)
  one_part i ss [] h = absurd h
  one_part i ss (tree.piece p ∷ qs) h = absurd h.0
  one_part i ss (tree.region j ∷ qs) h = (h, refl, refl)
  one_part i ss (tree.regions ∷ qs) h = absurd h.0

  all_parts : (ss : List Step) (qs : List (Part ℕ T A)) → ArePartsOf qs (all ∷ ss) → ArePartsOf qs (all ∷ ss) × (front_parts qs ≡ []) × (region_parts qs ≡ qs)
  all_parts ss [] h = absurd h
  all_parts ss (tree.piece p ∷ qs) h = absurd h.0
  all_parts ss (tree.region j ∷ qs) h = absurd h.0
  all_parts ss (tree.regions ∷ qs) h = (h, refl, refl)

  front_more : (step : Step) (ss : List Step) (found parts : List (Part ℕ T A)) (s t : S) (text mid : Text) → region_steps (step ∷ ss) ≡ region_steps ss
      → ((p : Piece ℕ T A) (m : Text) → front_by dialects types_at attr does (setting true does.any_key) (front_steps ss) (found ++ tree.piece p ∷ []) m s ≡ Advanced parts t mid → FrontRead ss (found ++ tree.piece p ∷ []) parts s t m mid)
      → front_by dialects types_at attr does (setting true does.any_key) (step ∷ front_steps ss) found text s ≡ Advanced parts t mid → FrontRead (step ∷ ss) found parts s t text mid
  front_more step ss found parts s t text mid skips again e =
      let a = tells_read ((space_at ▷ piece_at types_at attr (setting true does.any_key) step) text) text s (λ p rest. front_by dialects types_at attr does (setting true does.any_key) (front_steps ss) (found ++ tree.piece p ∷ []) rest s) parts t mid e in
      let p = piece_read step a.0 text a.1 a.2 a.3 in
      let k = again a.0 a.2 a.4 in
      record {
        ps = tree.piece a.0 ∷ k.ps;
        whole = k.whole ∙ append_assoc found (tree.piece a.0 ∷ []) k.ps;
        same = k.same;
        joins = λ qs rs rest fit r. let j = k.joins qs rs rest (subst (ArePartsOf qs) skips fit) r in
            record {
              fits = (p.0, j.fits);
              parts = (a.2, p.1, j.parts);
              front = ap (λ ps. tree.piece a.0 ∷ ps) j.front;
              following = j.following;
            };
      }

  front_read : (ss : List Step) (found parts : List (Part ℕ T A)) (s t : S) (text mid : Text) → front_by dialects types_at attr does (setting true does.any_key) (front_steps ss) found text s ≡ Advanced parts t mid
      → FrontRead ss found parts s t text mid
  front_read [] found parts s t text mid e = front_end [] found parts s t text mid no_parts e
  front_read (one i ∷ ss) found parts s t text mid e = front_end (one i ∷ ss) found parts s t text mid (one_part i ss) e
  front_read (all ∷ ss) found parts s t text mid e = front_end (all ∷ ss) found parts s t text mid (all_parts ss) e
  front_read (flat d ∷ ss) found parts s t text mid e =
      front_more (flat d) ss found parts s t text mid refl (λ p m. front_read ss (found ++ tree.piece p ∷ []) parts s t m mid) e
  front_read (types ∷ ss) found parts s t text mid e =
      front_more types ss found parts s t text mid refl (λ p m. front_read ss (found ++ tree.piece p ∷ []) parts s t m mid) e

  module _ (inner : Reads S) (shrink : (b : ℕ) → Shrink b inner inner) (iso : Bool) (tell : Tells inner (region_of texts owns dialects does) (region_act texts owns dialects does iso)) where
    -- the parts that were parsed from the first region on, and their regions
    record StepsRead (place : ℕ) (id : Id) (ss : List Step) (found parts : List (Part ℕ T A)) (s t : S) (text rest : Text) : Type 0 where
      pub ps : List (Part ℕ T A)
      pub regions : List (Shown texts owns dialects does)
      pub whole : parts ≡ found ++ ps
      pub fits : ArePartsOf ps ss
      pub reads : reads.parts (l texts owns dialects) ps (map (region_of texts owns dialects does) regions) text rest
      pub acts : t ≡ do_parts (isolated dialects) does place id ps (map (region_act texts owns dialects does iso) regions) s
      pub none : ArePieces ss → regions ≡ []

    late_read : (place : ℕ) (id : Id) (step : Step) (ss : List Step) (found parts : List (Part ℕ T A)) (s t : S) (text rest : Text) (next : Piece ℕ T A → Text → Reached (List (Part ℕ T A)) S)
        → ((p : Piece ℕ T A) (m : Text) → next p m ≡ Advanced parts t rest → StepsRead place id ss (found ++ tree.piece p ∷ []) parts (does.late place id p s) t m rest)
        → (ArePieces (step ∷ ss) → ArePieces ss)
        → tells ((space_at ▷ piece_at types_at attr (setting true does.any_key) step) text) text s next ≡ Advanced parts t rest → StepsRead place id (step ∷ ss) found parts s t text rest
    late_read place id step ss found parts s t text rest next again pieces e =
        let a = tells_read ((space_at ▷ piece_at types_at attr (setting true does.any_key) step) text) text s next parts t rest e in
        let p = piece_read step a.0 text a.1 a.2 a.3 in
        let k = again a.0 a.2 a.4 in
        record {
          ps = tree.piece a.0 ∷ k.ps;
          regions = k.regions;
          whole = k.whole ∙ append_assoc found (tree.piece a.0 ∷ []) k.ps;
          fits = (p.0, k.fits);
          reads = (a.2, p.1, k.reads);
          acts = k.acts;
          none = λ h. k.none (pieces h);
        }

    steps_read : (place : ℕ) (id : Id) (ss : List Step) (found parts : List (Part ℕ T A)) (s t : S) (text rest : Text) → EndsRegions ss
        → steps_by dialects types_at attr does inner place id ss found text s ≡ Advanced parts t rest → StepsRead place id ss found parts s t text rest
    steps_read place id [] found parts s t text rest ends e =
        let f : found ≡ parts = cc e in
        let g : s ≡ t = cc e in
        let h : text ≡ rest = cc e in
        record { ps = []; regions = []; whole = sym f ∙ sym (append-nil found); fits = tt; reads = sym h; acts = sym g; none = λ h. refl }
    steps_read place id (one i ∷ ss) found parts s t text rest ends e =
        let a = came_read (inner (after_space text) s) (λ _ t rest. steps_by dialects types_at attr does inner place id ss (found ++ tree.region i ∷ []) rest t) parts t rest e in
        let x = tell.read (after_space text) s a.1 a.2 a.3 in
        let k = steps_read place id ss (found ++ tree.region i ∷ []) parts a.1 t a.2 rest ends a.4 in
        record {
          ps = tree.region i ∷ k.ps;
          regions = x.0 ∷ k.regions;
          whole = k.whole ∙ append_assoc found (tree.region i ∷ []) k.ps;
          fits = (refl, k.fits);
          reads = (a.2, x.1, k.reads);
          acts = k.acts ∙ ap (do_parts (isolated dialects) does place id k.ps (map (region_act texts owns dialects does iso) k.regions)) x.2;
          none = λ h. absurd h;
        }
    steps_read place id (all ∷ ss) found parts s t text rest ends e =
        let a = came_read (regions_by inner (length text) (after_space text) s) (λ _ t rest. steps_by dialects types_at attr does inner place id ss (found ++ tree.regions ∷ []) rest t) parts t rest e in
        let x = loop_read (regions_loop inner) shrink (λ text s t rest b. tell.read text s t rest) (length text) (after_space text) s a.1 a.2 (space_bound (length text) text (omega arith)) a.3 in
        let k = steps_read place id ss (found ++ tree.regions ∷ []) parts a.1 t a.2 rest (pieces_end ss ends) a.4 in
        let none = k.none ends in
        record {
          ps = tree.regions ∷ k.ps;
          regions = x.items;
          whole = k.whole ∙ append_assoc found (tree.regions ∷ []) k.ps;
          fits = (tt, k.fits);
          reads = (a.2, x.reads, subst (λ xs. reads.parts (l texts owns dialects) k.ps (map (region_of texts owns dialects does) xs) a.2 rest) none k.reads);
          acts = k.acts ∙ ap₂ (λ xs s. do_parts (isolated dialects) does place id k.ps (map (region_act texts owns dialects does iso) xs) s) none x.does;
          none = λ h. absurd h;
        }
    steps_read place id (flat d ∷ ss) found parts s t text rest ends e =
        late_read place id (flat d) ss found parts s t text rest _ (λ p m. steps_read place id ss (found ++ tree.piece p ∷ []) parts (does.late place id p s) t m rest ends) (λ h. h) e
    steps_read place id (types ∷ ss) found parts s t text rest ends e =
        late_read place id types ss found parts s t text rest _ (λ p m. steps_read place id ss (found ++ tree.piece p ∷ []) parts (does.late place id p s) t m rest ends) (λ h. h) e

    -- what follows an id, given these steps
    abbrev body_with : ℕ → List (Name ℕ) → Id → List Step → Reads S
    body_with place names id ss text s = came (front_by dialects types_at attr does (setting true does.any_key) (front_steps ss) [] text s) (λ found t rest.
        came (steps_by dialects types_at attr does inner place id (region_steps ss) found rest (does.uses place id found t)) (λ parts u left. end_by dialects types_at attr does place names id parts left u))

    -- a body that was parsed
    record BodyRead (place : ℕ) (names : List (Name ℕ)) (id : Id) (ss : List Step) (s t : S) (text rest : Text) : Type 0 where
      pub ps : List (Part ℕ T A)
      pub regions : List (Shown texts owns dialects does)
      pub mark : Option (Mark ℕ)
      pub mid : Text
      pub fits : ArePartsOf ps ss
      pub parts : reads.parts (l texts owns dialects) ps (map (region_of texts owns dialects does) regions) text mid
      pub marks : reads.mark_if (l texts owns dialects) mark (after_space mid) rest
      pub acts : t ≡ does.marks mark (does.closes place names id ps (do_parts (isolated dialects) does place id (region_parts ps) (map (region_act texts owns dialects does iso) regions) (does.uses place id (front_parts ps) s)))

    -- the mark at an operation's end
    end_read : (place : ℕ) (names : List (Name ℕ)) (id : Id) (parts : List (Part ℕ T A)) (s t : S) (text rest : Text) → end_by dialects types_at attr does place names id parts text s ≡ Advanced tt t rest
        → (m : Option (Mark ℕ)) × reads.mark_if (l texts owns dialects) m (after_space text) rest × (t ≡ does.marks m (does.closes place names id parts s))
    end_read place names id parts s t text rest e =
        let u = does.closes place names id parts s in
        let a = tells_read ((space_at ▷ mark_if_at) text) text u (λ m rest. Advanced tt (does.marks m u) rest) tt t rest e in
        let b = followed_read (space_at text) (λ _ t. mark_if_at t) a.0 a.1 a.2 a.3 in
        let spaced : b.middle ≡ after_space text = cc b.first in
        let done : does.marks a.0 u ≡ t = cc a.4 in
        let left : a.2 ≡ rest = cc a.4 in
        (a.0, subst (λ z. reads.mark_if (l texts owns dialects) a.0 (after_space text) z) left (subst (λ z. reads.mark_if (l texts owns dialects) a.0 z a.2) spaced (heads.mark b.middle a.0 b.more a.2 b.second)), sym done)

    -- what was done, in terms of all parts
    joined_acts : (place : ℕ) (names : List (Name ℕ)) (id : Id) (front parts ps qs : List (Part ℕ T A)) (fs : List (S → S)) (m : Option (Mark ℕ)) (s u v t : S)
        → t ≡ does.marks m (does.closes place names id parts v) → parts ≡ front ++ qs → front ≡ ps → u ≡ s
        → v ≡ do_parts (isolated dialects) does place id qs fs (does.uses place id front u) → region_parts (ps ++ qs) ≡ qs → front_parts (ps ++ qs) ≡ ps
        → t ≡ does.marks m (does.closes place names id (ps ++ qs) (do_parts (isolated dialects) does place id (region_parts (ps ++ qs)) fs (does.uses place id (front_parts (ps ++ qs)) s)))
    joined_acts place names id front parts ps qs fs m s u v t e whole is same acts following first =
        e ∙ ap₂ (λ ps u. does.marks m (does.closes place names id ps u)) (whole ∙ ap (λ ps. ps ++ qs) is)
        (acts ∙ (ap₂ (λ ps s. do_parts (isolated dialects) does place id qs fs (does.uses place id ps s)) is same
        ∙ ap₂ (λ qs ps. do_parts (isolated dialects) does place id qs fs (does.uses place id ps s)) (sym following) (sym first)))

    body_read : (place : ℕ) (names : List (Name ℕ)) (id : Id) (ss : List Step) (s t : S) (text rest : Text) → EndsRegions (region_steps ss)
        → body_with place names id ss text s ≡ Advanced tt t rest → BodyRead place names id ss s t text rest
    body_read place names id ss s t text rest ends e =
        let a = came_read (front_by dialects types_at attr does (setting true does.any_key) (front_steps ss) [] text s) (λ found t rest.
        came (steps_by dialects types_at attr does inner place id (region_steps ss) found rest (does.uses place id found t)) (λ parts u left. end_by dialects types_at attr does place names id parts left u)) tt t rest e in
        let f = front_read ss [] a.0 s a.1 text a.2 a.3 in
        let b = came_read (steps_by dialects types_at attr does inner place id (region_steps ss) a.0 a.2 (does.uses place id a.0 a.1)) (λ parts u left. end_by dialects types_at attr does place names id parts left u) tt t rest a.4 in
        let g = steps_read place id (region_steps ss) a.0 b.0 (does.uses place id a.0 a.1) b.1 a.2 b.2 ends b.3 in
        let j = f.joins g.ps (map (region_of texts owns dialects does) g.regions) b.2 g.fits g.reads in
        let m = end_read place names id b.0 b.1 t b.2 rest b.4 in
        record {
          ps = f.ps ++ g.ps;
          regions = g.regions;
          mark = m.0;
          mid = b.2;
          fits = j.fits;
          parts = j.parts;
          marks = m.1;
          acts = joined_acts place names id a.0 b.0 f.ps g.ps (map (region_act texts owns dialects does iso) g.regions) m.0 s a.1 b.1 t m.2 g.whole f.whole f.same g.acts j.following j.front;
        }

-- ---- operations, blocks and regions
module _ {T A S : Type 0} (texts : Texts T) (owns : Texts A) (dialects : List (Text × Table)) (types_at : Reader T) (attr : Reader (AttrView A)) (does : Actions T A S)
    (heads : ReadHeads texts owns dialects types_at attr does.any_key) (no_more : LeavesNoMore types_at) (none_more : LeavesNoMore attr) (accepted : (id : Id) → IsAccepted dialects id) where
  -- what an operation's parser parsed
  record OperationRead (text : Text) (s t : S) (rest : Text) : Type 0 where
    pub tree : Tree ℕ T A
    pub reads : reads.reads (l texts owns dialects) tree text rest
    pub acts : t ≡ do_tree (isolated dialects) does tree s

  known_ends : (id : Id) (f : Format) → format_of dialects id ≡ Some f → EndsRegions (region_steps (steps_of f))
  known_ends id f e = ends_regions f (subst (λ o. IfSome o Accepted) e (accepted id))

  module _ (inner : Bool → Reads S) (shrink : (iso : Bool) (b : ℕ) → Shrink b (inner iso) (inner iso)) (tell : (iso : Bool) → Tells (inner iso) (region_of texts owns dialects does) (region_act texts owns dialects does iso)) where
    -- the tree of a body that was parsed after its lead
    body_tree : (text mid : Text) (s t : S) (rest : Text) (names : List (Name ℕ)) (id : Id) (f : Format) → format_of dialects id ≡ Some f → operation_lead (l texts owns dialects) (names, id) text mid
        → BodyRead texts owns dialects types_at attr does heads (inner (isolated dialects id)) (shrink (isolated dialects id)) (isolated dialects id) (tell (isolated dialects id)) (length text) names id (steps_of f) s t mid rest
        → OperationRead text s t rest
    body_tree text mid s t rest names id f known (m, results, found) b =
        let z = body_of_steps f b.ps b.fits in
        record {
          tree = record { own = record { place = length text; names = names; id = id; body = z.body; mark = b.mark }; regions = regions_from texts owns dialects does b.regions };
          reads = (
            refl,
            (
              (f, known, z.is_of),
              (
                m,
                results,
                (
                  mid,
                  found,
                  (
                    b.mid,
                    subst (λ rs. reads.parts (l texts owns dialects) (parts_of z.body) rs mid b.mid) (regions_read_as texts owns dialects does b.regions)
                        (subst (λ ps. reads.parts (l texts owns dialects) ps (map (region_of texts owns dialects does) b.regions) mid b.mid) (sym z.parts) b.parts),
                    b.marks,
                  ),
                ),
              ),
            ),
          );
          acts = b.acts ∙ ap₂ (λ ps fs. does.marks b.mark (does.closes (length text) names id ps (do_parts (isolated dialects) does (length text) id (region_parts ps) fs (does.uses (length text) id (front_parts ps) s))))
              (sym z.parts) (regions_do texts owns dialects does (isolated dialects id) b.regions);
        }

    operation_read : (text : Text) (s t : S) (rest : Text) → operation_by dialects types_at attr does inner true text s ≡ Advanced tt t rest → OperationRead text s t rest
    operation_read text s t rest e =
        let a = tells_read (led_at dialects text) text s (λ lead rest. body_by dialects types_at attr does (inner (isolated dialects lead.1)) true (length text) lead.0 lead.1 rest s) tt t rest e in
        let lead = heads.lead text a.0 a.1 a.2 a.3 in
        known_read text s t rest a.0.0 a.0.1 a.2 lead.0.0 lead.0.1 lead.1 a.4
      where
        known_read : (text : Text) (s t : S) (rest : Text) (names : List (Name ℕ)) (id : Id) (mid : Text) (f : Format) → format_of dialects id ≡ Some f → operation_lead (l texts owns dialects) (names, id) text mid
            → body_by dialects types_at attr does (inner (isolated dialects id)) true (length text) names id mid s ≡ Advanced tt t rest → OperationRead text s t rest
        known_read text s t rest names id mid f known lead e =
            let iso = isolated dialects id in
            body_tree text mid s t rest names id f known lead
            (body_read texts owns dialects types_at attr does heads (inner iso) (shrink iso) iso (tell iso) (length text) names id (steps_of f) s t mid rest (known_ends id f known)
            (subst (λ ss. body_with texts owns dialects types_at attr does heads (inner iso) (shrink iso) iso (tell iso) (length text) names id ss mid s ≡ Advanced tt t rest) (steps_known dialects id f known) e))

    operation_shrinks : (b : ℕ) → Shrink b (operation_by dialects types_at attr does inner true) (operation_by dialects types_at attr does inner true)
    operation_shrinks b = operation_agree dialects types_at attr does no_more none_more b inner inner (λ iso. shrunk (shrink iso b)) true

  module _ (item : Reads S) (shrink : (b : ℕ) → Shrink b item item) (tell : Tells item (reads.reads (l texts owns dialects)) (do_tree (isolated dialects) does)) where
    after_read : (text : Text) (s t : S) (rest : Text) → begins (the 59) text ≡ true → after_semicolon item text s ≡ Advanced tt t rest
        → (x : Tree ℕ T A) × separate 59 (reads.reads (l texts owns dialects) x) text rest × (t ≡ do_tree (isolated dialects) does x s)
    after_read [] s t rest b e = absurd (true≢false (sym b))
    after_read (c ∷ text) s t rest b e =
        let x = tell.read (after_space text) s t rest e in
        (x.0, (text, ap (λ c. c ∷ text) (same_character c 59 b), x.1), x.2)

    -- a row of operations that was parsed
    operations_read : (text : Text) (s t : S) (rest : Text) → operations_by item (after_space text) s ≡ Advanced tt t rest
        → (xs : List (Tree ℕ T A)) × separated 59 reads.no_operation (map (reads.reads (l texts owns dialects)) xs) (after_space text) rest × (t ≡ each_of (map (do_tree (isolated dialects) does) xs) s)
    operations_read text s t rest e = go (begins_operation (after_space text)) refl e
      where
        go : (b : Bool) → begins_operation (after_space text) ≡ b → cond b (came (item (after_space text) s) (λ _ t rest. more_by item (length rest) (after_space rest) t)) (Advanced tt s (after_space text)) ≡ Advanced tt t rest
            → (xs : List (Tree ℕ T A)) × separated 59 reads.no_operation (map (reads.reads (l texts owns dialects)) xs) (after_space text) rest × (t ≡ each_of (map (do_tree (isolated dialects) does) xs) s)
        go false b e =
            let same : s ≡ t = cc e in
            let left : after_space text ≡ rest = cc e in
            ([], (subst (λ t. begins_operation t ≡ false) (sym (after_twice is_whitespace text)) b, sym left), sym same)
        go true b e =
            let a = came_read (item (after_space text) s) (λ _ t rest. more_by item (length rest) (after_space rest) t) tt t rest e in
            let x = tell.read (after_space text) s a.1 a.2 a.3 in
            let k = loop_read (more_loop item) (semicolon_shrinks item shrink) after_read (length a.2) (after_space a.2) a.1 t rest (space_bound (length a.2) a.2 (omega arith)) a.4 in
            (x.0 ∷ k.items, (a.2, x.1, repeated_more 59 (reads.reads (l texts owns dialects)) k.items (after_space a.2) rest k.reads), k.does ∙ ap (each_of (map (do_tree (isolated dialects) does) k.items)) x.2)

    block_read : (text : Text) (s t : S) (rest : Text) → block_by dialects types_at attr does (operations_by item) text s ≡ Advanced tt t rest
        → (x : Headed texts owns dialects does) × block_of texts owns dialects does x text rest × (t ≡ block_act texts owns dialects does x s)
    block_read text s t rest e =
        let a = tells_read (head_at types_at attr text) text s (λ h rest. operations_by item (after_space rest) (does.heads h s)) tt t rest e in
        let h = heads.head text a.0 a.1 a.2 a.3 in
        let k = operations_read a.2 (does.heads a.0 s) t rest a.4 in
        let os = operations_from texts owns dialects does k.0 in (
          (a.0, os),
          (block_in_parts (l texts owns dialects) a.0 (reads.operation_readings (l texts owns dialects) os) text rest).1
              (a.2, h, subst (λ rs. separated 59 reads.no_operation rs (after_space a.2) rest) (operations_read_as texts owns dialects does k.0) k.1),
          k.2 ∙ operations_do texts owns dialects does k.0 (does.heads a.0 s),
        )

    block_shrinks : (b : ℕ) → Shrink b (block_by dialects types_at attr does (operations_by item)) (block_by dialects types_at attr does (operations_by item))
    block_shrinks b = block_agree dialects types_at attr does no_more none_more b _ _ (operations_agree b item item (shrunk (shrink b)))

    -- the blocks of a region, between its braces
    braces_read : (iso : Bool) (text m k rest : Text) (s u t : S) → literal (codes "{") text m → RowRead (the 94) (block_of texts owns dialects does) (block_act texts owns dialects does) (after_space m) (does.enters iso s) u k
        → literal (codes "}") k rest → t ≡ does.leaves iso (length text) u
        → (x : Shown texts owns dialects does) × region_of texts owns dialects does x text rest × (t ≡ region_act texts owns dialects does iso x s)
    braces_read iso text m k rest s u t opens row closes acts =
        let bs = blocks_from texts owns dialects does row.items in
        let there = subst (λ rs. repeated (the 94) rs (after_space m) k) (blocks_read_as texts owns dialects does row.items) row.reads in (
          (length text, bs),
          (refl, (m, opens, (k, there, subst (λ t. literal (codes "}") t rest) (sym (repeated_tight (the 94) (reads.block_readings (l texts owns dialects) bs) m k there)) closes))),
          acts ∙ ap (does.leaves iso (length text)) (row.does ∙ blocks_do texts owns dialects does row.items (does.enters iso s)),
        )

    region_read : (iso : Bool) (text : Text) (s t : S) (rest : Text)
        → region_by dialects types_at attr does (λ rest t. blocks_by (block_by dialects types_at attr does (operations_by item)) (length rest) rest t) iso text s ≡ Advanced tt t rest
        → (x : Shown texts owns dialects does) × region_of texts owns dialects does x text rest × (t ≡ region_act texts owns dialects does iso x s)
    region_read iso text s t rest e =
        let a = tells_read ((word (codes "{") ▷ space_at) text) text (does.enters iso s) (λ _ rest. came (blocks rest (does.enters iso s)) closed) tt t rest e in
        let o = followed_read (word (codes "{") text) (λ _ t. space_at t) a.0 a.1 a.2 a.3 in
        blocks_read o.middle a.2 (text_read (codes "{") text o.front o.middle o.first) (cc o.second) a.4
      where
        blocks : Reads S
        blocks rest t = blocks_by (block_by dialects types_at attr does (operations_by item)) (length rest) rest t

        closed : Unit {0} → S → Text → Reached Unit S
        closed _ u left = tells (word (codes "}") left) left u (λ _ end. Advanced tt (does.leaves iso (length text) u) end)

        blocks_read : (m mid : Text) → literal (codes "{") text m → after_space m ≡ mid → came (blocks mid (does.enters iso s)) closed ≡ Advanced tt t rest
            → (x : Shown texts owns dialects does) × region_of texts owns dialects does x text rest × (t ≡ region_act texts owns dialects does iso x s)
        blocks_read m mid opens spaced e =
            let b = came_read (blocks mid (does.enters iso s)) closed tt t rest e in
            let row = loop_read (blocks_loop (block_by dialects types_at attr does (operations_by item))) block_shrinks (λ text s t rest b. block_read text s t rest) (length mid) mid (does.enters iso s) b.1 b.2 (omega arith) b.3 in
            let c = tells_read (word (codes "}") b.2) b.2 b.1 (λ _ end. Advanced tt (does.leaves iso (length text) b.1) end) tt t rest b.4 in
            let left : c.2 ≡ rest = cc c.4 in
            let done : does.leaves iso (length text) b.1 ≡ t = cc c.4 in
            braces_read iso text m b.2 rest s b.1 t opens
            (subst (λ z. RowRead (the 94) (block_of texts owns dialects does) (block_act texts owns dialects does) z (does.enters iso s) b.1 b.2) (sym spaced) row)
            (subst (literal (codes "}") b.2) left (text_read (codes "}") b.2 c.1 c.2 c.3)) (sym done)

  -- ---- regions within a bound on their nesting, by induction on the bound
  within_read : (n : ℕ) (iso : Bool) → Tells (region_within dialects types_at attr does n iso) (region_of texts owns dialects does) (region_act texts owns dialects does iso)
  within_read zero iso = record { read = λ text s t rest e. absurd (cc e) }
  within_read (suc n) iso = record {
    read = λ text s t rest e. region_read (operation_by dialects types_at attr does (region_within dialects types_at attr does n) true)
        (operation_shrinks (region_within dialects types_at attr does n) (λ iso b. within_shrinks dialects types_at attr does no_more none_more n b iso) (λ iso. within_read n iso))
        (record {
          read = λ text s t rest e. let k = operation_read (region_within dialects types_at attr does n) (λ iso b. within_shrinks dialects types_at attr does no_more none_more n b iso) (λ iso. within_read n iso) text s t rest e in
              (k.tree, k.reads, k.acts);
        })
        iso text s t rest e;
  }

  -- what a region's parser parses
  region_tells : (iso : Bool) → Tells (region_at dialects types_at attr does iso) (region_of texts owns dialects does) (region_act texts owns dialects does iso)
  region_tells iso = record { read = λ text s t rest e. (within_read (suc (length text)) iso).read text s t rest e }

  -- What an operation's parser parses is a tree that the grammar parses, and it has done what the tree does.
  pub tree_read : (text : Text) (s t : S) (rest : Text) → operation_at dialects types_at attr does true text s ≡ Advanced tt t rest
      → (x : Tree ℕ T A) × reads.reads (l texts owns dialects) x text rest × (t ≡ do_tree (isolated dialects) does x s)
  tree_read text s t rest e =
      let k = operation_read (region_at dialects types_at attr does) (λ iso b. region_shrinks dialects types_at attr does no_more none_more b iso) region_tells text s t rest e in
      (k.tree, k.reads, k.acts)

  -- What a region's parser parses is a region that the grammar parses, and it has done what the region does.
  pub region_is_read : (iso : Bool) (text : Text) (s t : S) (rest : Text) → region_at dialects types_at attr does iso text s ≡ Advanced tt t rest
      → (bs : Blocks (Op ℕ T A) (Head ℕ T A) (Brace ℕ)) × reads.region_read (l texts owns dialects) (shown (length text)) (reads.block_readings (l texts owns dialects) bs) text rest
      × (t ≡ does.leaves iso (length text) (do_blocks (isolated dialects) does bs (does.enters iso s)))
  region_is_read iso text s t rest e = placed ((region_tells iso).read text s t rest e)
    where
      placed : (x : Shown texts owns dialects does) × region_of texts owns dialects does x text rest × (t ≡ region_act texts owns dialects does iso x s)
          → (bs : Blocks (Op ℕ T A) (Head ℕ T A) (Brace ℕ)) × reads.region_read (l texts owns dialects) (shown (length text)) (reads.block_readings (l texts owns dialects) bs) text rest
          × (t ≡ does.leaves iso (length text) (do_blocks (isolated dialects) does bs (does.enters iso s)))
      placed (x, r, d) = (x.1, (refl, r.1), d ∙ ap (λ n. does.leaves iso n (do_blocks (isolated dialects) does x.1 (does.enters iso s))) r.0)
