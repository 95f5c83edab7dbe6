-- What the grammar parses as a tree the parsers of nested text parse, and they perform the actions of the tree.
use Rattle.std.proofs.Common.{◌≡◌, ◌∙◌, ℕ, Bool, true, false, ◌==◌, ◌||◌, List, [], ◌∷◌, ◌++◌, map, codes, length, refl, sym, ap, subst, arith, append_assoc, append-nil, inl, inr}
use Rattle.std.specs.Char.{is_whitespace}
use Rattle.irtext_base.specs.Text.{Text, begins, begins_word, front, after_space}
use Rattle.irtext_base.specs.Reading.{Reading, the, literal, separated}
use Rattle.irtext_base.specs.Format.{Id}
use Rattle.irtext_base.specs.Answers.{Read}
use Rattle.irtext_base.specs.Locations.{AttrView}
use Rattle.irtext_base.specs.Own.{Texts}
use Rattle.irtext_base.proofs.Characters.{after_twice}
use Rattle.irtext_context.specs.Dialects.{Table}
use Rattle.irtext_tokens.specs.Infix.{Reader, ◌▷◌}
use Rattle.irtext_tokens.specs.Tokens.{space_at, word}
use Rattle.irtext_grammar.specs.Contexts.Formats.{isolated}
use Rattle.irtext_grammar.specs.Grammar.Forest.{Regions, no_regions, region, Blocks, no_blocks, block, Operations, no_operations, operation}
use Rattle.irtext_grammar.specs.Grammar.Reads as reads
use Rattle.irtext_grammar.specs.Grammar.Tree as tree
use Rattle.irtext_grammar.specs.Grammar.Tree.{Name, Piece, Part, Op, Head, Brace, shown, elided, Tree, parts_of}
use Rattle.irtext_grammar.specs.Readers.RestLengths.{LeavesNoMore}
use Rattle.irtext_grammar.proofs.Joins.Answers.{followed-read}
use Rattle.irtext_grammar.proofs.Joins.Tokens.{text-literal}
use Rattle.irtext_grammar.proofs.Locations.RestLengths.{space_bound}
use Rattle.irtext_grammar.specs.Exact.{IsOfStep}
use Rattle.irtext_grammar.specs.Heads.{Step, flat, types, one, all, steps_of, front_steps, region_steps, piece_at, head_at, led_at, mark_if_at, setting}
use Rattle.irtext_grammar.specs.Reached.{Reached, Advanced, came, tells, Actions, Reads, begins_operation, begins_region, begins_block, steps_in, regions_by, operations_by, front_by, steps_by, end_by, operation_by, block_by, region_by, region_at, operation_at, front_parts, region_parts, each_of, do_parts, do_operation, do_regions, do_blocks, do_operations, do_tree}
use Rattle.irtext_grammar.proofs.Exact.Head.{block_in_parts}
use Rattle.irtext_grammar.proofs.Knot.Alike.{Shrink}
use Rattle.irtext_grammar.proofs.Knot.Bound.{inner_blocks, block_at, regions_loop, more_loop, blocks_loop, semicolon_shrinks, region_is, region_shrinks, operation_shrinks, block_shrinks}
use Rattle.irtext_grammar.proofs.Knot.Heads.{l, FoundHeads}
use Rattle.irtext_grammar.proofs.Knot.Loops.{tells_found, came_found, Finds, AllFind, BeginsWith, loop_found, repeated_tight, separate, more_repeated, after_found}
use Rattle.irtext_grammar.proofs.Knot.Steps.{ArePartsOf, body_steps, region_fit, split_parts, steps_known}

-- an operation begins with a word or with `=`
abbrev begins_so : ℕ → Bool
begins_so c = begins_word c || c == 61

begins_by_word : (text : Text) → begins begins_word text ≡ true → begins begins_so text ≡ true
begins_by_word [] e = e
begins_by_word (c ∷ text) e = rw e refl

-- ---- what an operation, a block and a region are made of
module _ {T A S : Type 0} (texts : Texts T) (owns : Texts A) (dialects : List (Text × Table)) (types_at : Reader T) (attr : Reader (AttrView A)) (does : Actions T A S)
    (heads : FoundHeads texts owns dialects types_at attr does.any_key) where
  -- a piece is parsed after white space
  piece_found : (step : Step) (p : Piece ℕ T A) (text mid : Text) → IsOfStep step p → reads.piece (l texts owns dialects) p (after_space text) mid
      → (taken : Text) × ((space_at ▷ piece_at types_at attr (setting true does.any_key) step) text ≡ Read p taken mid)
  piece_found step p text mid is r =
      let k = heads.piece step (after_space text) p mid (is, r) in
      (_, followed-read (space_at text) (λ _ t. piece_at types_at attr (setting true does.any_key) step t) tt p (front is_whitespace text) (after_space text) k.0 mid refl k.1)

  -- the parts before the first region are parsed, and the other parts follow them
  record FrontFound (ss : List Step) (found : List (Part ℕ T A)) (ps : List (Part ℕ T A)) (rs : List Reading) (text rest : Text) (s : S) : Type 0 where
    pub mid : Text
    pub is : front_by dialects types_at attr does (setting true does.any_key) (front_steps ss) found text s ≡ Advanced (found ++ front_parts ps) s mid
    pub following : reads.parts (l texts owns dialects) (region_parts ps) rs mid rest

  front_none : (found : List (Part ℕ T A)) (s : S) (text : Text) → Advanced found s text ≡ Advanced (found ++ []) s text
  front_none found s text = ap (λ ps. Advanced ps s text) (sym (append-nil found))

  front_more : (step : Step) (ss : List Step) (found : List (Part ℕ T A)) (p : Piece ℕ T A) (ps : List (Part ℕ T A)) (rs : List Reading) (text m rest : Text) (s : S)
      → IsOfStep step p → reads.piece (l texts owns dialects) p (after_space text) m → front_steps (step ∷ ss) ≡ step ∷ front_steps ss
      → FrontFound ss (found ++ tree.piece p ∷ []) ps rs m rest s → FrontFound (step ∷ ss) found (tree.piece p ∷ ps) rs text rest s
  front_more step ss found p ps rs text m rest s is r front k =
      let first = piece_found step p text m is r in
      record {
        mid = k.mid;
        is = ap (λ ss. front_by dialects types_at attr does (setting true does.any_key) ss found text s) front
            ∙ (tells_found ((space_at ▷ piece_at types_at attr (setting true does.any_key) step) text) text s (λ p rest. front_by dialects types_at attr does (setting true does.any_key) (front_steps ss) (found ++ tree.piece p ∷ []) rest s) p first.0 m first.1
            ∙ (k.is ∙ ap (λ ps. Advanced ps s k.mid) (append_assoc found (tree.piece p ∷ []) (front_parts ps))));
        following = k.following;
      }

  front_found : (ss : List Step) (ps : List (Part ℕ T A)) (rs : List Reading) (found : List (Part ℕ T A)) (text rest : Text) (s : S) → ArePartsOf ps ss
      → reads.parts (l texts owns dialects) ps rs text rest → FrontFound ss found ps rs text rest s
  front_found [] [] rs found text rest s h r = record { mid = text; is = front_none found s text; following = r }
  front_found [] (p ∷ ps) rs found text rest s h r = absurd h
  front_found (step ∷ ss) [] rs found text rest s h r = absurd h
  front_found (flat d ∷ ss) (tree.piece p ∷ ps) rs found text rest s h (m, r, z) =
      front_more (flat d) ss found p ps rs text m rest s h.0 r refl (front_found ss ps rs (found ++ tree.piece p ∷ []) m rest s h.1 z)
  front_found (types ∷ ss) (tree.piece p ∷ ps) rs found text rest s h (m, r, z) =
      front_more types ss found p ps rs text m rest s h.0 r refl (front_found ss ps rs (found ++ tree.piece p ∷ []) m rest s h.1 z)
  front_found (one i ∷ ss) (tree.region j ∷ ps) rs found text rest s h r = record { mid = text; is = front_none found s text; following = r }
  front_found (all ∷ ss) (tree.regions ∷ ps) rs found text rest s h r = record { mid = text; is = front_none found s text; following = r }
  front_found (step ∷ ss) (p ∷ ps) rs found text rest s h r = absurd h.0

  module _ (inner : Reads S) (shrink : (b : ℕ) → Shrink b inner inner) where
    late_found : (place : ℕ) (id : Id) (step : Step) (p : Piece ℕ T A) (ps found : List (Part ℕ T A)) (fs : List (S → S)) (text m rest : Text) (s : S)
        (next : Piece ℕ T A → Text → Reached (List (Part ℕ T A)) S) → IsOfStep step p → reads.piece (l texts owns dialects) p (after_space text) m
        → next p m ≡ Advanced ((found ++ tree.piece p ∷ []) ++ ps) (do_parts (isolated dialects) does place id ps fs (does.late place id p s)) rest
        → tells ((space_at ▷ piece_at types_at attr (setting true does.any_key) step) text) text s next ≡ Advanced (found ++ tree.piece p ∷ ps) (do_parts (isolated dialects) does place id (tree.piece p ∷ ps) fs s) rest
    late_found place id step p ps found fs text m rest s next is r e =
        let first = piece_found step p text m is r in
        tells_found ((space_at ▷ piece_at types_at attr (setting true does.any_key) step) text) text s next p first.0 m first.1
        ∙ (e ∙ ap (λ qs. Advanced qs (do_parts (isolated dialects) does place id ps fs (does.late place id p s)) rest) (append_assoc found (tree.piece p ∷ []) ps))

    -- The parts from the first region on are parsed, with what the regions do.
    steps_found : (place : ℕ) (id : Id) (ss : List Step) (ps : List (Part ℕ T A)) (rs : List Reading) (fs : List (S → S)) (found : List (Part ℕ T A)) (text rest : Text) (s : S)
        → ArePartsOf ps ss → AllFind (BeginsWith (the 123)) inner rs fs → reads.parts (l texts owns dialects) ps rs text rest
        → steps_by dialects types_at attr does inner place id ss found text s ≡ Advanced (found ++ ps) (do_parts (isolated dialects) does place id ps fs s) rest
    steps_found place id [] [] [] fs found text rest s h a r = ap (λ ps. Advanced ps s text) (sym (append-nil found)) ∙ ap (Advanced (found ++ []) s) (sym r)
    steps_found place id [] [] (r ∷ rs) fs found text rest s h a z = absurd z
    steps_found place id [] (p ∷ ps) rs fs found text rest s h a r = absurd h
    steps_found place id (step ∷ ss) [] rs fs found text rest s h a r = absurd h
    steps_found place id (flat d ∷ ss) (tree.piece p ∷ ps) rs fs found text rest s h a (m, r, z) =
        late_found place id (flat d) p ps found fs text m rest s _ h.0 r
        (steps_found place id ss ps rs fs (found ++ tree.piece p ∷ []) m rest (does.late place id p s) h.1 a z)
    steps_found place id (types ∷ ss) (tree.piece p ∷ ps) rs fs found text rest s h a (m, r, z) =
        late_found place id types p ps found fs text m rest s _ h.0 r
        (steps_found place id ss ps rs fs (found ++ tree.piece p ∷ []) m rest (does.late place id p s) h.1 a z)
    steps_found place id (one i ∷ ss) (tree.region j ∷ ps) [] fs found text rest s h a r = absurd r
    steps_found place id (one i ∷ ss) (tree.region j ∷ ps) (r ∷ rs) [] found text rest s h a z = absurd a
    steps_found place id (one i ∷ ss) (tree.region j ∷ ps) (r ∷ rs) (f ∷ fs) found text rest s h a (m, q, z) =
        came_found (inner (after_space text) s) _ tt (f s) m (a.0.found (after_space text) m s q)
        ∙ (steps_found place id ss ps rs fs (found ++ tree.region i ∷ []) m rest (f s) h.1 a.1 z
        ∙ (ap (λ qs. Advanced qs (do_parts (isolated dialects) does place id ps fs (f s)) rest) (append_assoc found (tree.region i ∷ []) ps) ∙ ap (λ i. Advanced (found ++ tree.region i ∷ ps) (do_parts (isolated dialects) does place id ps fs (f s)) rest) (sym h.0)))
    steps_found place id (all ∷ ss) (tree.regions ∷ ps) rs fs found text rest s h a (m, q, z) =
        came_found (regions_by inner (length text) (after_space text) s) _ tt (each_of fs s) m
        (loop_found (regions_loop inner) shrink (length text) rs fs (after_space text) m s (space_bound (length text) text (omega arith)) a q)
        ∙ (steps_found place id ss ps [] [] (found ++ tree.regions ∷ []) m rest (each_of fs s) h.1 tt z
        ∙ ap (λ qs. Advanced qs (do_parts (isolated dialects) does place id ps [] (each_of fs s)) rest) (append_assoc found (tree.regions ∷ []) ps))
    steps_found place id (step ∷ ss) (p ∷ ps) rs fs found text rest s h a r = absurd h.0

  -- ---- an operation
  -- its first characters
  results_begin : (ns : List (Name ℕ)) (text rest : Text) → reads.results (l texts owns dialects) ns (after_space text) rest → begins begins_so (after_space text) ≡ true
  results_begin [] text rest (m, (none, same), e) =
      subst (λ t. begins begins_so t ≡ true) (ap after_space same ∙ after_twice is_whitespace text) (ap (begins begins_so) e)
  results_begin (n ∷ ns) text rest (m, (k, (at, (begins_word_there, whole, left)), z), e) = begins_by_word (after_space text) begins_word_there

  lead_begin : (ns : List (Name ℕ)) (i : Id) (text mid rest : Text) → reads.results_if (l texts owns dialects) ns (after_space text) mid → reads.id i (after_space mid) rest
      → begins begins_so (after_space text) ≡ true
  lead_begin ns i text mid rest (inl r) id = results_begin ns text mid r
  lead_begin ns i text mid rest (inr (none, same, others)) (k, (begins_word_there, whole, left), z) =
      begins_by_word (after_space text) (subst (λ t. begins begins_word t ≡ true) (ap after_space same ∙ after_twice is_whitespace text) begins_word_there)

  operation_begin : (o : Op ℕ T A) (rs : List Reading) (text rest : Text) → reads.operation_read (l texts owns dialects) o rs text rest → begins_operation (after_space text) ≡ true
  operation_begin o rs text rest (at, (r, (m, names, (n, id, z)))) = lead_begin o.names o.id text m n names id

  -- the end of an operation
  end_found : (o : Op ℕ T A) (place : ℕ) (text rest : Text) (s : S) → reads.mark_if (l texts owns dialects) o.mark (after_space text) rest
      → end_by dialects types_at attr does place o.names o.id (parts_of o.body) text s ≡ Advanced tt (does.marks o.mark (does.closes place o.names o.id (parts_of o.body) s)) rest
  end_found o place text rest s r =
      let k = heads.mark (after_space text) o.mark rest r in
      tells_found ((space_at ▷ mark_if_at) text) text _ _ o.mark _ rest (followed-read (space_at text) (λ _ t. mark_if_at t) tt o.mark (front is_whitespace text) (after_space text) k.0 rest refl k.1)

  -- what follows an id, given these steps
  abbrev body_with : Reads S → ℕ → List (Name ℕ) → Id → List Step → Reads S
  body_with inner place names id ss text s = came (front_by dialects types_at attr does (setting true does.any_key) (front_steps ss) [] text s) (λ found t rest.
      came (steps_by dialects types_at attr does inner place id (region_steps ss) found rest (does.uses place id found t)) (λ parts u left. end_by dialects types_at attr does place names id parts left u))

  body_found : (inner : Reads S) (shrink : (b : ℕ) → Shrink b inner inner) (o : Op ℕ T A) (ss : List Step) (rs : List Reading) (fs : List (S → S)) (text mid rest : Text) (s : S)
      → ArePartsOf (parts_of o.body) ss → AllFind (BeginsWith (the 123)) inner rs fs
      → reads.parts (l texts owns dialects) (parts_of o.body) rs text mid → reads.mark_if (l texts owns dialects) o.mark (after_space mid) rest
      → body_with inner o.place o.names o.id ss text s ≡ Advanced tt (do_operation (isolated dialects) does o fs s) rest
  body_found inner shrink o ss rs fs text mid rest s h a r mark =
      let ps = parts_of o.body in
      let f = front_found ss ps rs [] text mid s h r in
      let t = does.uses o.place o.id (front_parts ps) s in
      let u = do_parts (isolated dialects) does o.place o.id (region_parts ps) fs t in
      let g = steps_found inner shrink o.place o.id (region_steps ss) (region_parts ps) rs fs (front_parts ps) f.mid mid t (region_fit ps ss h) a f.following in
      came_found _ _ (front_parts ps) s f.mid f.is
      ∙ (came_found _ _ ps u mid (g ∙ ap (λ ps. Advanced ps u mid) (split_parts ps)) ∙ end_found o o.place mid rest u mark)

  -- An operation is parsed where the grammar parses it, if its regions are.
  operation_found : (inner : Bool → Reads S) (shrink : (iso : Bool) (b : ℕ) → Shrink b (inner iso) (inner iso)) (o : Op ℕ T A) (rs : List Reading) (fs : List (S → S)) (text rest : Text) (s : S)
      → AllFind (BeginsWith (the 123)) (inner (isolated dialects o.id)) rs fs
      → reads.operation_read (l texts owns dialects) o rs text rest → operation_by dialects types_at attr does inner true text s ≡ Advanced tt (do_operation (isolated dialects) does o fs s) rest
  operation_found inner shrink o rs fs text rest s a (at, ((f, known, is), (m, names, (n, id, (k, parts, mark))))) =
      let lead = heads.lead text (o.names, o.id) n ((f, known), (m, names, id)) in
      let body = body_found (inner (isolated dialects o.id)) (shrink (isolated dialects o.id)) o (steps_of f) rs fs n k rest s (body_steps f o.body is) a parts mark in
      let whole = subst (λ ss. body_with (inner (isolated dialects o.id)) o.place o.names o.id ss n s ≡ Advanced tt (do_operation (isolated dialects) does o fs s) rest) (sym (steps_known dialects o.id f known)) body in
      tells_found (led_at dialects text) text s _ (o.names, o.id) lead.0 n lead.1
      ∙ subst (λ place. body_with (inner (isolated dialects o.id)) place o.names o.id (steps_in dialects o.id) n s ≡ Advanced tt (do_operation (isolated dialects) does o fs s) rest) at whole

  -- ---- a row of operations
  operations_row : (item : Reads S) (shrink : (b : ℕ) → Shrink b item item) (rs : List Reading) (fs : List (S → S)) (text rest : Text) (s : S)
      → AllFind (λ text. begins_operation (after_space text) ≡ true) item rs fs → separated 59 reads.no_operation rs (after_space text) rest
      → operations_by item (after_space text) s ≡ Advanced tt (each_of fs s) rest
  operations_row item shrink [] [] text rest s h (none, same) =
      rw (subst (λ t. begins_operation t ≡ false) (after_twice is_whitespace text) none) (ap (Advanced tt s) (sym same))
  operations_row item shrink [] (a ∷ fs) text rest s h r = absurd h
  operations_row item shrink (r ∷ rs) [] text rest s h z = absurd h
  operations_row item shrink (r ∷ rs) (a ∷ fs) text rest s h (m, q, z) =
      rw (subst (λ t. begins_operation t ≡ true) (after_twice is_whitespace text) (h.0.begins (after_space text) m q))
      (came_found (item (after_space text) s) _ tt (a s) m (h.0.found (after_space text) m s q)
      ∙ loop_found (more_loop item) (semicolon_shrinks item shrink) (length m) (map (separate 59) rs) fs (after_space m) rest (a s) (space_bound (length m) m (omega arith)) (after_found _ item rs fs h.1) (more_repeated 59 rs (after_space m) rest z))

  -- ---- a block
  label_begins : (n : Name ℕ) (text rest : Text) → reads.label (l texts owns dialects) n text rest → begins_block text ≡ true
  label_begins n text rest (at, (m, e, z)) = ap begins_block e

  block_found : (item : Reads S) (shrink : (b : ℕ) → Shrink b item item) (h : Head ℕ T A) (rs : List Reading) (fs : List (S → S)) → AllFind (λ text. begins_operation (after_space text) ≡ true) item rs fs
      → Finds (BeginsWith (the 94)) (block_by dialects types_at attr does (operations_by item)) (reads.block_read (l texts owns dialects) h rs) (λ s. each_of fs (does.heads h s))
  block_found item shrink h rs fs a = record {
    begins = λ text rest (m, label, z). label_begins h.label text m label;
    found = λ text rest s r.
        let p = (block_in_parts (l texts owns dialects) h rs text rest).0 r in
        let head = heads.head text h p.0 p.1 in
        tells_found (head_at types_at attr text) text s _ h head.0 p.0 head.1 ∙ operations_row item shrink rs fs p.0 rest (does.heads h s) a p.2;
  }

  -- ---- a region
  region_found : (blocks : Reads S) (iso : Bool) (text m k rest : Text) (s u : S) → literal (codes "{") text m → blocks (after_space m) (does.enters iso s) ≡ Advanced tt u k → literal (codes "}") k rest
      → region_by dialects types_at attr does blocks iso text s ≡ Advanced tt (does.leaves iso (length text) u) rest
  region_found blocks iso text m k rest s u opens e closes =
      tells_found ((word (codes "{") ▷ space_at) text) text _ _ tt _ (after_space m)
      (followed-read (word (codes "{") text) (λ _ t. space_at t) tt tt (codes "{") m (front is_whitespace m) (after_space m) (text-literal (codes "{") text m opens) refl)
      ∙ (came_found (blocks (after_space m) (does.enters iso s)) _ tt u k e
      ∙ tells_found (word (codes "}") k) k u _ tt (codes "}") rest (text-literal (codes "}") k rest closes))

-- ---- trees
module _ {T A S : Type 0} (texts : Texts T) (owns : Texts A) (dialects : List (Text × Table)) (types_at : Reader T) (attr : Reader (AttrView A)) (does : Actions T A S)
    (heads : FoundHeads texts owns dialects types_at attr does.any_key) (no_more : LeavesNoMore types_at) (none_more : LeavesNoMore attr) where
  abbrev TreeRegions : Type 0
  TreeRegions = Regions (Op ℕ T A) (Head ℕ T A) (Brace ℕ)

  -- what each block does
  abbrev block_acts : Blocks (Op ℕ T A) (Head ℕ T A) (Brace ℕ) → List (S → S)
  block_acts no_blocks = []
  block_acts (block h os bs) = (λ s. do_operations (isolated dialects) does os (does.heads h s)) ∷ block_acts bs

  -- what each operation does
  abbrev operation_acts : Operations (Op ℕ T A) (Head ℕ T A) (Brace ℕ) → List (S → S)
  operation_acts no_operations = []
  operation_acts (operation o rs os) = do_operation (isolated dialects) does o (do_regions (isolated dialects) does (isolated dialects o.id) rs) ∷ operation_acts os

  blocks_act : (bs : Blocks (Op ℕ T A) (Head ℕ T A) (Brace ℕ)) (s : S) → each_of (block_acts bs) s ≡ do_blocks (isolated dialects) does bs s
  blocks_act no_blocks s = refl
  blocks_act (block h os bs) s = blocks_act bs (do_operations (isolated dialects) does os (does.heads h s))

  operations_act : (os : Operations (Op ℕ T A) (Head ℕ T A) (Brace ℕ)) (s : S) → each_of (operation_acts os) s ≡ do_operations (isolated dialects) does os s
  operations_act no_operations s = refl
  operations_act (operation o rs os) s = operations_act os _

  -- a region that is shown
  shown_region : (iso : Bool) (place : ℕ) (bs : Blocks (Op ℕ T A) (Head ℕ T A) (Brace ℕ))
      → AllFind (BeginsWith (the 94)) (block_at dialects types_at attr does no_more none_more) (reads.block_readings (l texts owns dialects) bs) (block_acts bs)
      → Finds (BeginsWith (the 123)) (region_at dialects types_at attr does iso) (reads.region_read (l texts owns dialects) (shown place) (reads.block_readings (l texts owns dialects) bs))
      (λ s. does.leaves iso place (do_blocks (isolated dialects) does bs (does.enters iso s)))
  shown_region iso place bs h = record {
    begins = λ text rest (at, (m, opens, z)). ap begins_region opens;
    found = λ text rest s (at, (m, opens, (k, row, closes))).
        let blocks = loop_found (blocks_loop (block_at dialects types_at attr does no_more none_more)) (block_shrinks dialects types_at attr does no_more none_more) (length (after_space m))
        (reads.block_readings (l texts owns dialects) bs) (block_acts bs) (after_space m) k (does.enters iso s) (omega arith) h row in
        let tight = repeated_tight (the 94) (reads.block_readings (l texts owns dialects) bs) m k row in
        region_is dialects types_at attr does no_more none_more iso text s
        ∙ (region_found texts owns dialects types_at attr does heads (inner_blocks dialects types_at attr does no_more none_more (region_at dialects types_at attr does)) iso text m k rest s _ opens
        (blocks ∙ ap (λ u. Advanced tt u k) (blocks_act bs (does.enters iso s))) (subst (λ t. literal (codes "}") t rest) tight closes)
        ∙ ap (λ n. Advanced tt (does.leaves iso n (do_blocks (isolated dialects) does bs (does.enters iso s))) rest) (sym at));
  }

  one_block : (h : Head ℕ T A) (os : Operations (Op ℕ T A) (Head ℕ T A) (Brace ℕ))
      → AllFind (λ text. begins_operation (after_space text) ≡ true) (operation_at dialects types_at attr does true) (reads.operation_readings (l texts owns dialects) os) (operation_acts os)
      → Finds (BeginsWith (the 94)) (block_at dialects types_at attr does no_more none_more) (reads.block_read (l texts owns dialects) h (reads.operation_readings (l texts owns dialects) os))
      (λ s. do_operations (isolated dialects) does os (does.heads h s))
  one_block h os a =
      let k = block_found texts owns dialects types_at attr does heads (operation_at dialects types_at attr does true) (λ b. operation_shrinks dialects types_at attr does no_more none_more b true)
      h (reads.operation_readings (l texts owns dialects) os) (operation_acts os) a in
      record { begins = k.begins; found = λ text rest s r. k.found text rest s r ∙ ap (λ u. Advanced tt u rest) (operations_act os (does.heads h s)) }

  one_operation : (o : Op ℕ T A) (rs : TreeRegions)
      → AllFind (BeginsWith (the 123)) (region_at dialects types_at attr does (isolated dialects o.id)) (reads.region_readings (l texts owns dialects) rs) (do_regions (isolated dialects) does (isolated dialects o.id) rs)
      → Finds (λ text. begins_operation (after_space text) ≡ true) (operation_at dialects types_at attr does true) (reads.operation_read (l texts owns dialects) o (reads.region_readings (l texts owns dialects) rs))
      (do_operation (isolated dialects) does o (do_regions (isolated dialects) does (isolated dialects o.id) rs))
  one_operation o rs a = record {
    begins = operation_begin texts owns dialects types_at attr does heads o (reads.region_readings (l texts owns dialects) rs);
    found = λ text rest s r. operation_found texts owns dialects types_at attr does heads (region_at dialects types_at attr does) (λ iso b. region_shrinks dialects types_at attr does no_more none_more b iso)
        o (reads.region_readings (l texts owns dialects) rs) (do_regions (isolated dialects) does (isolated dialects o.id) rs) text rest s a r;
  }

  mutual
    regions_found : (iso : Bool) (rs : TreeRegions)
        → AllFind (BeginsWith (the 123)) (region_at dialects types_at attr does iso) (reads.region_readings (l texts owns dialects) rs) (do_regions (isolated dialects) does iso rs)
    regions_found iso no_regions = tt
    regions_found iso (region (shown place) bs rs) = (shown_region iso place bs (blocks_found bs), regions_found iso rs)
    regions_found iso (region elided no_blocks rs) = (record { begins = λ text rest r. absurd r; found = λ text rest s r. absurd r }, regions_found iso rs)
    regions_found iso (region elided (block h os bs) rs) = (record { begins = λ text rest r. absurd r; found = λ text rest s r. absurd r }, regions_found iso rs)

    blocks_found : (bs : Blocks (Op ℕ T A) (Head ℕ T A) (Brace ℕ))
        → AllFind (BeginsWith (the 94)) (block_at dialects types_at attr does no_more none_more) (reads.block_readings (l texts owns dialects) bs) (block_acts bs)
    blocks_found no_blocks = tt
    blocks_found (block h os bs) = (one_block h os (operations_found os), blocks_found bs)

    operations_found : (os : Operations (Op ℕ T A) (Head ℕ T A) (Brace ℕ))
        → AllFind (λ text. begins_operation (after_space text) ≡ true) (operation_at dialects types_at attr does true) (reads.operation_readings (l texts owns dialects) os) (operation_acts os)
    operations_found no_operations = tt
    operations_found (operation o rs os) = (one_operation o rs (regions_found (isolated dialects o.id) rs), operations_found os)

  -- What the grammar parses as a tree an operation's parser parses, and does what the tree does.
  pub tree_found : (x : Tree ℕ T A) (text rest : Text) (s : S) → reads.reads (l texts owns dialects) x text rest
      → operation_at dialects types_at attr does true text s ≡ Advanced tt (do_tree (isolated dialects) does x s) rest
  tree_found x text rest s r = (one_operation x.own x.regions (regions_found (isolated dialects x.own.id) x.regions)).found text rest s r

  -- What the grammar parses as a region its parser parses, and does what the region does.
  pub region_is_found : (iso : Bool) (bs : Blocks (Op ℕ T A) (Head ℕ T A) (Brace ℕ)) (place : ℕ) (text rest : Text) (s : S)
      → reads.region_read (l texts owns dialects) (shown place) (reads.block_readings (l texts owns dialects) bs) text rest
      → region_at dialects types_at attr does iso text s ≡ Advanced tt (does.leaves iso place (do_blocks (isolated dialects) does bs (does.enters iso s))) rest
  region_is_found iso bs place text rest s r = (shown_region iso place bs (blocks_found bs)).found text rest s r
