-- What the grammar parses as a tree is parsed outside of each region too, up to the first failure among the parts of its operation before
-- the first region, or to the first attribute that is not allowed under its key.
use Rattle.std.proofs.Common.{◌≡◌, ◌∙◌, inl, inr, ℕ, true, false, List, [], ◌∷◌, ◌++◌, map, length, length-append, Some, refl, sym, ap, subst, arith, append_assoc}
use Rattle.std.specs.Prelude.{⊤}
use Rattle.std.specs.Char.{is_whitespace}
use Rattle.irtext_base.specs.Text.{Text, front, after_space}
use Rattle.irtext_base.specs.Reading.{Reading}
use Rattle.irtext_base.specs.Answers.{Outcome, Read}
use Rattle.irtext_base.specs.Own.{texts_of}
use Rattle.irtext_base.proofs.Along.{front_after}
use Rattle.irtext_context.specs.Dialects.{Table}
use Rattle.irtext_tokens.specs.Infix.{◌▷◌}
use Rattle.irtext_tokens.specs.AttrTexts.{attr_at}
use Rattle.irtext_tokens.specs.Tokens.{space_at}
use Rattle.irtext_grammar.specs.Contexts.Formats.{format_of, isolated}
use Rattle.irtext_grammar.specs.Grammar.Reads as reads
use Rattle.irtext_grammar.specs.Grammar.Tree as tree
use Rattle.irtext_grammar.specs.Grammar.Tree.{Name, Attribute, Piece, Part, Tree, parts_of}
use Rattle.irtext_grammar.specs.Names.Acts.{may_hold, key_act, value_uses, label_uses, piece_acts, parts_script, closing_acts, singles, single_labels, region_scripts, tree_script}
use Rattle.irtext_grammar.specs.Names.Scopes.{no_scope, fact_of, ◌⊳◌}
use Rattle.irtext_grammar.specs.Names.History as history
use Rattle.irtext_grammar.specs.Names.Script.{Path, does_all}
use Rattle.irtext_grammar.specs.Names.TextScopes.{Act, Failure, Script, act_failures, failures}
use Rattle.irtext_grammar.proofs.Joins.Answers.{Splits, followed-read}
use Rattle.irtext_grammar.specs.Agrees.{ReadOrStops}
use Rattle.irtext_grammar.specs.Entries.{fault_for}
use Rattle.irtext_grammar.specs.Exact.{NeedsWord, IsOfStep}
use Rattle.irtext_grammar.specs.Heads.{Step, flat, types, one, all, steps_of, front_steps, region_steps, piece_at, led_at, setting}
use Rattle.irtext_grammar.specs.Naming.{naming}
use Rattle.irtext_grammar.specs.Promises.Supported.{is_committed}
use Rattle.irtext_grammar.specs.Reached.{Reached, Advanced, Stopped, came, tells, Actions, freely, steps_in, front_by, steps_by, end_by, body_by, region_at, operation_at, do_tree}
use Rattle.irtext_grammar.proofs.Exact.Lead.{exact_led}
use Rattle.irtext_grammar.proofs.Exact.Outside.{fails_outside, piece_outside}
use Rattle.irtext_grammar.proofs.Exact.Pieces.{exact_piece}
use Rattle.irtext_grammar.proofs.Knot.Loops.{tells_found, came_found, came_read}
use Rattle.irtext_grammar.proofs.Knot.Steps.{ArePartsOf, body_steps, steps_known}
use Rattle.irtext_grammar.proofs.Knot.Tested as tested
use Rattle.irtext_grammar.proofs.Knot.Tested.{Ends, there, rest_tested, region_is_tested}
use Rattle.irtext_grammar.proofs.Knot.Whole.{L, tree_found}
use Rattle.irtext_grammar.proofs.Naming.Follows.{Follows, broke}
use Rattle.irtext_grammar.proofs.Stops.{stops_second}

-- ---- acts that say nothing where no scope is open
abbrev Unsaid : List Act → Type 0
Unsaid [] = ⊤
Unsaid (a ∷ acts) = (no_scope ⊳ fact_of a ≡ no_scope) × Unsaid acts

unsaid_values : (p : Path) (j : ℕ) (ns : List (Name ℕ)) → Unsaid (value_uses p j ns)
unsaid_values p j [] = tt
unsaid_values p j (n ∷ ns) = (refl, unsaid_values p _ ns)

unsaid_labels : (p : Path) (j : ℕ) (ns : List (Name ℕ)) → Unsaid (label_uses p j ns)
unsaid_labels p j [] = tt
unsaid_labels p j (n ∷ ns) = (refl, unsaid_labels p _ ns)

unsaid_keys : {A : Type 0} (es : List (Name ℕ × Attribute A)) → Unsaid (map (key_act may_hold) es)
unsaid_keys [] = tt
unsaid_keys (e ∷ es) = (refl, unsaid_keys es)

unsaid_piece : {T A : Type 0} (p : Path) (j k : ℕ) (q : Piece ℕ T A) → Unsaid (piece_acts p j k q)
unsaid_piece p j k (tree.word s) = tt
unsaid_piece p j k (tree.operand i n) = (refl, tt)
unsaid_piece p j k (tree.operands ns) = unsaid_values p j ns
unsaid_piece p j k (tree.successor i n) = (refl, tt)
unsaid_piece p j k (tree.successors ns) = unsaid_labels p k ns
unsaid_piece p j k (tree.attribute t a) = tt
unsaid_piece p j k (tree.dictionary es) = unsaid_keys es
unsaid_piece p j k (tree.result_type i t) = tt
unsaid_piece p j k (tree.header n) = tt
unsaid_piece p j k (tree.types ts) = tt

-- their failures come first
acts_first : (acts : List Act) (then : Script) → Unsaid acts → failures no_scope (does_all acts then) ≡ fails_outside acts ++ failures no_scope then
acts_first [] then h = refl
acts_first (a ∷ acts) then h =
    ap (λ s. act_failures no_scope a ++ failures s (does_all acts then)) h.0
    ∙ (ap (λ z. act_failures no_scope a ++ z) (acts_first acts then h.1) ∙ sym (append_assoc (act_failures no_scope a) (fails_outside acts) (failures no_scope then)))

module _ {T A : Type 0} (types_at : Text → Outcome T) (types_written : T → Text) (reading : Text → Outcome A) (written : A → Text) (dialects : List (Text × Table)) (types_split : Splits types_at) (splits : Splits reading) (words : NeedsWord reading) where
  -- a piece after white space, inside of a region and outside of each
  spaced_inside : (step : Step) (p : Piece ℕ T A) (text mid : Text) → IsOfStep step p → reads.piece (L types_at types_written reading written dialects) p (after_space text) mid
      → (taken : Text) × ((space_at ▷ piece_at types_at (attr_at reading) (setting true true) step) text ≡ Read p taken mid)
  spaced_inside step p text mid is r =
      let k = (exact_piece types_at types_written reading written (format_of dialects) types_split splits step (λ _. words)).found (after_space text) p mid (is, r) in
      (_, followed-read (space_at text) (λ _ t. piece_at types_at (attr_at reading) (setting true true) step t) tt p (front is_whitespace text) (after_space text) k.0 mid refl k.1)

  spaced_outside : (path : Path) (j k : ℕ) (step : Step) (p : Piece ℕ T A) (text mid : Text) → IsOfStep step p → reads.piece (L types_at types_written reading written dialects) p (after_space text) mid
      → ReadOrStops text ((space_at ▷ piece_at types_at (attr_at reading) (setting false false) step) text) p mid (fails_outside (piece_acts path j k p))
  spaced_outside path j k step p text mid is r = go (piece_outside types_at types_written reading written (format_of dialects) types_split splits words path j k step p (after_space text) mid (is, r))
    where
      go : ReadOrStops (after_space text) (piece_at types_at (attr_at reading) (setting false false) step (after_space text)) p mid (fails_outside (piece_acts path j k p))
          → ReadOrStops text ((space_at ▷ piece_at types_at (attr_at reading) (setting false false) step) text) p mid (fails_outside (piece_acts path j k p))
      go (inl (none, (taken, e))) = inl (none, (_, followed-read (space_at text) (λ _ t. piece_at types_at (attr_at reading) (setting false false) step t) tt p (front is_whitespace text) (after_space text) taken mid refl e))
      go (inr s) = inr (stops_second (λ _ t. piece_at types_at (attr_at reading) (setting false false) step t) (space_at text) tt (front is_whitespace text) (after_space text) text refl (front_after is_whitespace text) s)

  module _ (of_place : ℕ → Path) where
    abbrev S : Type 0
    S = history.Outcome

    -- the actions on names, where keys are tested, and where they are not
    abbrev does : Actions T A S
    does = naming (format_of dialects) of_place

    abbrev free : Actions T A S
    free = freely does

    -- ---- the parts before the first region
    -- They are parsed as inside of a region; or the first failure of the script of all parts is among them, and the parser stops there.
    data FrontOutside (path : Path) (j k : ℕ) (ss : List Step) (found ps : List (Part ℕ T A)) (text : Text) (s : S) : Type 0 where
      alike : front_by dialects types_at (attr_at reading) does (setting false false) (front_steps ss) found text s ≡ front_by dialects types_at (attr_at reading) free (setting true true) (front_steps ss) found text s → FrontOutside path j k ss found ps text s
      stuck : (f : Failure) (place : ℕ) → front_by dialects types_at (attr_at reading) does (setting false false) (front_steps ss) found text s ≡ Stopped s (fault_for f.cause) place → f.at ≡ Some place
          → ((rs : List (Script → Script)) (then : Script) → (others : List Failure) × (failures no_scope (parts_script path j k ps rs then) ≡ f ∷ others)) → FrontOutside path j k ss found ps text s

    front_more : (path : Path) (j k : ℕ) (step : Step) (ss : List Step) (found : List (Part ℕ T A)) (p : Piece ℕ T A) (ps : List (Part ℕ T A)) (text m : Text) (s : S)
        → IsOfStep step p → reads.piece (L types_at types_written reading written dialects) p (after_space text) m → front_steps (step ∷ ss) ≡ step ∷ front_steps ss
        → FrontOutside path j k ss (found ++ tree.piece p ∷ []) ps m s → FrontOutside path j k (step ∷ ss) found (tree.piece p ∷ ps) text s
    front_more path j k step ss found p ps text m s is r front more = go (spaced_outside path j k step p text m is r) more
      where
        go : ReadOrStops text ((space_at ▷ piece_at types_at (attr_at reading) (setting false false) step) text) p m (fails_outside (piece_acts path j k p)) → FrontOutside path j k ss (found ++ tree.piece p ∷ []) ps m s
            → FrontOutside path j k (step ∷ ss) found (tree.piece p ∷ ps) text s
        go (inl (none, (taken, e))) (alike q) =
            let i = spaced_inside step p text m is r in
            alike (ap (λ ss. front_by dialects types_at (attr_at reading) does (setting false false) ss found text s) front
            ∙ (tells_found _ text s (λ p rest. front_by dialects types_at (attr_at reading) does (setting false false) (front_steps ss) (found ++ tree.piece p ∷ []) rest s) p taken m e
            ∙ (q
            ∙ (sym (tells_found _ text s (λ p rest. front_by dialects types_at (attr_at reading) free (setting true true) (front_steps ss) (found ++ tree.piece p ∷ []) rest s) p i.0 m i.1)
            ∙ sym (ap (λ ss. front_by dialects types_at (attr_at reading) free (setting true true) ss found text s) front)))))
        go (inl (none, (taken, e))) (stuck f place q at fails) =
            stuck f place (ap (λ ss. front_by dialects types_at (attr_at reading) does (setting false false) ss found text s) front
            ∙ (tells_found _ text s (λ p rest. front_by dialects types_at (attr_at reading) does (setting false false) (front_steps ss) (found ++ tree.piece p ∷ []) rest s) p taken m e ∙ q)) at
            (λ rs then. let o = fails rs then in (
              o.0,
              acts_first (piece_acts path j k p) (parts_script path j k ps rs then) (unsaid_piece path j k p) ∙ (ap (λ z. z ++ failures no_scope (parts_script path j k ps rs then)) none ∙ o.1),
            ))
        go (inr z) more =
            stuck z.first (length z.stop) (ap (λ ss. front_by dialects types_at (attr_at reading) does (setting false false) ss found text s) front
            ∙ (ap (λ o. tells o text s (λ p rest. front_by dialects types_at (attr_at reading) does (setting false false) (front_steps ss) (found ++ tree.piece p ∷ []) rest s)) z.bad
            ∙ ap (Stopped s (fault_for z.first.cause)) (omega (arith, ap length z.splits, length-append z.upto z.stop)))) z.at
            (λ rs then. (
              z.others ++ failures no_scope (parts_script path j k ps rs then),
              acts_first (piece_acts path j k p) (parts_script path j k ps rs then) (unsaid_piece path j k p) ∙ ap (λ z. z ++ failures no_scope (parts_script path j k ps rs then)) z.is,
            ))

    front_outside : (path : Path) (j k : ℕ) (ss : List Step) (ps : List (Part ℕ T A)) (rs : List Reading) (found : List (Part ℕ T A)) (text rest : Text) (s : S) → ArePartsOf ps ss
        → reads.parts (L types_at types_written reading written dialects) ps rs text rest → FrontOutside path j k ss found ps text s
    front_outside path j k [] [] rs found text rest s h r = alike refl
    front_outside path j k [] (p ∷ ps) rs found text rest s h r = absurd h
    front_outside path j k (step ∷ ss) [] rs found text rest s h r = absurd h
    front_outside path j k (flat d ∷ ss) (tree.piece p ∷ ps) rs found text rest s h (m, r, z) =
        front_more path j k (flat d) ss found p ps text m s h.0 r refl (front_outside path j k ss ps rs (found ++ tree.piece p ∷ []) m rest s h.1 z)
    front_outside path j k (types ∷ ss) (tree.piece p ∷ ps) rs found text rest s h (m, r, z) =
        front_more path j k types ss found p ps text m s h.0 r refl (front_outside path j k ss ps rs (found ++ tree.piece p ∷ []) m rest s h.1 z)
    front_outside path j k (one i ∷ ss) (tree.region n ∷ ps) rs found text rest s h r = alike refl
    front_outside path j k (all ∷ ss) (tree.regions ∷ ps) rs found text rest s h r = alike refl
    front_outside path j k (step ∷ ss) (p ∷ ps) rs found text rest s h r = absurd h.0

    -- ---- the whole operation
    -- The operation is parsed as inside of a region; or the parser stops at the first failure of the tree, among the parts before the first
    -- region; or it stops later, at an attribute that is not allowed under its key, with which the tree's actions fail.
    pub data TreeOutside (x : Tree ℕ T A) (text rest : Text) (s : S) : Type 0 where
      as_inside : operation_at dialects types_at (attr_at reading) does false text s ≡ Advanced tt (do_tree (isolated dialects) does x s) rest → TreeOutside x text rest s
      at_front : (f : Failure) (place : ℕ) → operation_at dialects types_at (attr_at reading) does false text s ≡ Stopped s (fault_for f.cause) place → f.at ≡ Some place
          → ((then : Script) → (others : List Failure) × (failures no_scope (tree_script (isolated dialects) x then) ≡ f ∷ others)) → TreeOutside x text rest s
      at_key : (u : S) (f : Failure) (place : ℕ) → operation_at dialects types_at (attr_at reading) does false text s ≡ Stopped u (fault_for f.cause) place → f.at ≡ Some place
          → do_tree (isolated dialects) does x s ≡ history.failed (broke u f) → TreeOutside x text rest s

    module _ (x : Tree ℕ T A) (text rest : Text) (s : S) (r : reads.reads (L types_at types_written reading written dialects) x text rest) where
      abbrev Whole : Text → List Step → Type 0
      Whole n ss = FrontOutside [] (singles (parts_of x.own.body)) (single_labels (parts_of x.own.body)) ss [] (parts_of x.own.body) n s

      abbrev after_front : Actions T A S → List (Part ℕ T A) → S → Text → Reached Unit S
      after_front d found t left = came (steps_by dialects types_at (attr_at reading) d (region_at dialects types_at (attr_at reading) d (isolated dialects x.own.id)) (length text) x.own.id (region_steps (steps_in dialects x.own.id)) found left
          (does.uses (length text) x.own.id found t)) (λ parts u left. end_by dialects types_at (attr_at reading) d (length text) x.own.names x.own.id parts left u)

      -- the parts before the first region
      abbrev free_front : Text → Reached (List (Part ℕ T A)) S
      free_front n = front_by dialects types_at (attr_at reading) free (setting true true) (front_steps (steps_in dialects x.own.id)) [] n s

      by_rest : (n taken : Text) → led_at dialects text ≡ Read (x.own.names, x.own.id) taken n → came (free_front n) (after_front does) ≡ operation_at dialects types_at (attr_at reading) does false text s → TreeOutside x text rest s
      by_rest n taken lead same =
          let whole = sym (tells_found (led_at dialects text) text s (λ lead rest. body_by dialects types_at (attr_at reading) free (region_at dialects types_at (attr_at reading) free (isolated dialects lead.1)) true (length text) lead.0 lead.1 rest s) (x.own.names, x.own.id) taken n lead)
          ∙ tree_found types_at types_written reading written dialects types_split splits does words x text rest s r in
          let a = came_read (free_front n) (after_front free) tt (do_tree (isolated dialects) does x s) rest whole in
          let region = region_is_tested types_at types_written reading written dialects types_split splits words of_place (isolated dialects x.own.id) in
          go a.0 a.1 a.2 a.3 ((rest_tested types_at types_written reading written dialects types_split splits words of_place (region_at dialects types_at (attr_at reading) does (isolated dialects x.own.id)) (region_at dialects types_at (attr_at reading) free (isolated dialects x.own.id))
          region (length text) x.own.id x.own.names a.0 a.1 a.2).by tt (do_tree (isolated dialects) does x s) rest a.4)
        where
          go : (parts : List (Part ℕ T A)) (u : S) (mid : Text) → free_front n ≡ Advanced parts u mid → Ends (Follows u) (after_front does parts u mid) tt (do_tree (isolated dialects) does x s) rest → TreeOutside x text rest s
          go parts u mid e (there f k) = as_inside (sym same ∙ (came_found (free_front n) (after_front does) parts u mid e ∙ f))
          go parts u mid e (tested.at_key w c place f at is) = at_key w c place (sym same ∙ (came_found (free_front n) (after_front does) parts u mid e ∙ f)) at is

      by_front : (n taken : Text) → led_at dialects text ≡ Read (x.own.names, x.own.id) taken n → Whole n (steps_in dialects x.own.id) → TreeOutside x text rest s
      by_front n taken lead (alike q) =
          by_rest n taken lead (sym (tells_found (led_at dialects text) text s _ (x.own.names, x.own.id) taken n lead ∙ ap (λ o. came o (after_front does)) q))
      by_front n taken lead (stuck f place q at fails) =
          at_front f place (tells_found (led_at dialects text) text s _ (x.own.names, x.own.id) taken n lead ∙ ap (λ o. came o (after_front does)) q) at
          (λ then. fails (region_scripts (isolated dialects) [] 0 (isolated dialects x.own.id) x.regions) (does_all (closing_acts [] x.own) then))

      by_parts : reads.reads (L types_at types_written reading written dialects) x text rest → TreeOutside x text rest s
      by_parts (at, ((f, known, is), (m, names, (n, id, (k, parts, mark))))) =
          let o = x.own in
          let lead = (exact_led dialects (texts_of types_at types_written) (texts_of reading written)).found text (o.names, o.id) n ((f, known), (m, names, id)) in
          by_front n lead.0 lead.1 (subst (Whole n) (sym (steps_known dialects o.id f known))
          (front_outside [] (singles (parts_of o.body)) (single_labels (parts_of o.body)) (steps_of f) (parts_of o.body) (reads.region_readings (L types_at types_written reading written dialects) x.regions) [] n k s (body_steps f o.body is) parts))

    pub tree_outside : (x : Tree ℕ T A) (text rest : Text) (s : S) → reads.reads (L types_at types_written reading written dialects) x text rest → TreeOutside x text rest s
    tree_outside x text rest s r = by_parts x text rest s r r

  -- something of a tree's lead is there
  pub tree_led : (x : Tree ℕ T A) (text rest : Text) → reads.reads (L types_at types_written reading written dialects) x text rest → is_committed (led_at dialects text) ≡ true
  tree_led x text rest (at, ((f, known, is), (m, names, (n, id, z)))) =
      ap is_committed ((exact_led dialects (texts_of types_at types_written) (texts_of reading written)).found text (x.own.names, x.own.id) n ((f, known), (m, names, id))).1
