-- Where keys are tested, nested text is parsed as where any attribute is accepted under a reserved key, up to the first attribute that is
-- not allowed under its key: there the parser is stuck, and the machine of names would have failed with it.
use Rattle.std.proofs.Common.{◌≡◌, ◌∙◌, ◌-◌, inl, inr, ℕ, zero, suc, Bool, true, false, cond, List, [], ◌∷◌, ◌++◌, length, length-append, Option, Some, codes, refl, sym, ap, subst, arith, append_assoc, append-nil}
use Rattle.std.specs.Prelude.{⊤}
use Rattle.std.specs.Char.{is_whitespace}
use Rattle.irtext_base.specs.Text.{Text, begins, front, after_space}
use Rattle.irtext_base.specs.Reading.{the}
use Rattle.irtext_base.specs.Format.{Format, Id}
use Rattle.irtext_base.specs.Answers as answers
use Rattle.irtext_base.specs.Answers.{Read, Missing, Bad}
use Rattle.irtext_base.specs.Locations.{AttrView}
use Rattle.irtext_base.proofs.Along.{front_after}
use Rattle.irtext_context.specs.Dialects.{Table}
use Rattle.irtext_tokens.specs.Infix.{◌▷◌}
use Rattle.irtext_tokens.specs.AttrTexts.{attr_at}
use Rattle.irtext_tokens.specs.Tokens.{space_at, word}
use Rattle.irtext_grammar.specs.Contexts.Formats.{format_of, isolated}
use Rattle.irtext_grammar.specs.Grammar.Tree as tree
use Rattle.irtext_grammar.specs.Grammar.Tree.{Name, Mark, Piece, Part, views}
use Rattle.irtext_grammar.specs.Names.History as history
use Rattle.irtext_grammar.specs.Names.History.{Outcome, failed}
use Rattle.irtext_grammar.specs.Names.Script.{Path}
use Rattle.irtext_grammar.specs.Names.TextScopes.{Failure}
use Rattle.irtext_grammar.specs.Names.Acts.{mark_acts, header_acts}
use Rattle.irtext_grammar.specs.Readers.Parts.{without_first}
use Rattle.irtext_grammar.proofs.Joins.Answers.{Splits, followed_read, followed-read}
use Rattle.irtext_grammar.specs.Agrees.{ReadOrStops}
use Rattle.irtext_grammar.specs.Entries.{fault_for}
use Rattle.irtext_grammar.specs.Exact.{NeedsWord}
use Rattle.irtext_grammar.specs.Heads.{Step, flat, types, one, all, front_steps, region_steps, piece_at, head_at, led_at, mark_if_at, setting}
use Rattle.irtext_grammar.specs.Naming.{acted, acts_of_piece, acts_at_end, naming}
use Rattle.irtext_grammar.specs.Reached.{Reached, Advanced, Stopped, came, tells, Actions, freely, Reads, begins_operation, begins_region, begins_block, steps_in, regions_by, more_by, operations_by, blocks_by, front_by, steps_by, end_by, body_by, operation_by, block_by, region_by, region_within, region_at, operation_at}
use Rattle.irtext_grammar.proofs.Exact.Outside.{key_failures, inside_read, piece_inside}
use Rattle.irtext_grammar.proofs.Knot.Loops.{tells_found, came_found, tells_read, came_read}
use Rattle.irtext_grammar.proofs.Naming.Follows.{Follows, follows_same, follows_both, Ready, ready_follows, follows_acted, enters_ready, leaves_follows, broke, freely_keeps, uses_broke, late_broke}
use Rattle.irtext_grammar.proofs.Naming.KeepsReading.{done_in, Quiet, quiet_regions, quiet_more, quiet_operations, quiet_blocks, quiet_front, quiet_steps, quiet_end, quiet_body, quiet_operation, quiet_block, quiet_region, quiet_region_at, quiet_came, quiet_tells}
use Rattle.irtext_grammar.proofs.Stops.{stops_second}

-- The parse came to this end, with this of its state; or it is stuck at an attribute that is not allowed under its key, and the machine has
-- failed at the end with it, or with what it had failed with there.
pub data Ends {X : Type 0} (P : Outcome → Type 0) (o : Reached X Outcome) (x : X) (t : Outcome) (rest : Text) : Type 0 where
  there : o ≡ Advanced x t rest → P t → Ends P o x t rest
  at_key : (u : Outcome) (k : Failure) (place : ℕ) → o ≡ Stopped u (fault_for k.cause) place → k.at ≡ Some place → t ≡ failed (broke u k) → Ends P o x t rest

-- where the second parse comes to an end, so does the first one, up to such an attribute
pub record Tested {X : Type 0} (P : Outcome → Type 0) (o f : Reached X Outcome) : Type 0 where
  pub by : (x : X) (t : Outcome) (rest : Text) → f ≡ Advanced x t rest → Ends P o x t rest

module _ {X : Type 0} where
  advanced_state : (x y : X) (s t : Outcome) (a b : Text) → Advanced x s a ≡ Advanced y t b → s ≡ t
  advanced_state x y s t a b e = cc e

  -- a parse that came to an end
  tested_there : (P : Outcome → Type 0) (x : X) (s : Outcome) (rest : Text) → P s → Tested P (Advanced x s rest) (Advanced x s rest)
  tested_there P x s rest h = record { by = λ y t r e. there e (subst P (advanced_state x y s t rest r e) h) }

  tested_if : (P : Outcome → Type 0) (b : Bool) (o p f g : Reached X Outcome) → Tested P o f → Tested P p g → Tested P (cond b o p) (cond b f g)
  tested_if P true o p f g h k = h
  tested_if P false o p f g h k = k

  tested_weaker : (P Q : Outcome → Type 0) (o f : Reached X Outcome) → ((t : Outcome) → P t → Q t) → Tested P o f → Tested Q o f
  tested_weaker P Q o f w h = record { by = λ x t rest e. go x t rest (h.by x t rest e) }
    where
      go : (x : X) (t : Outcome) (rest : Text) → Ends P o x t rest → Ends Q o x t rest
      go x t rest (there e k) = there e (w t k)
      go x t rest (at_key u k place e at is) = at_key u k place e at is

  -- where a state is unchanged by a parse that came to an end, it is that at the end
  done_state : (z : Failure) (u : Outcome) (o : Outcome → Reached X Outcome) (x : X) (t : Outcome) (rest : Text) → u ≡ failed z → done_in (o (failed z)) ≡ failed z → o u ≡ Advanced x t rest → t ≡ failed z
  done_state z u o x t rest is quiet e = sym (ap done_in e) ∙ (ap (λ u. done_in (o u)) is ∙ quiet)

module _ {X Y : Type 0} where
  tested_came : (P Q : Outcome → Type 0) (o f : Reached X Outcome) (next other : X → Outcome → Text → Reached Y Outcome) → Tested P o f
      → ((x : X) (t : Outcome) (rest : Text) → P t → Tested Q (next x t rest) (other x t rest)) → ((z : Failure) (x : X) (rest : Text) → done_in (other x (failed z) rest) ≡ failed z)
      → Tested Q (came o next) (came f other)
  tested_came P Q o f next other h k quiet = record {
    by = λ y v r e. let a = came_read f other y v r e in go y v r a.0 a.1 a.2 a.4 (h.by a.0 a.1 a.2 a.3);
  }
    where
      more : (y : Y) (v : Outcome) (r : Text) (x : X) (u : Outcome) (mid : Text) → o ≡ Advanced x u mid → Ends Q (next x u mid) y v r → Ends Q (came o next) y v r
      more y v r x u mid e (there f k) = there (came_found o next x u mid e ∙ f) k
      more y v r x u mid e (at_key w c place f at is) = at_key w c place (came_found o next x u mid e ∙ f) at is

      go : (y : Y) (v : Outcome) (r : Text) (x : X) (u : Outcome) (mid : Text) → other x u mid ≡ Advanced y v r → Ends P o x u mid → Ends Q (came o next) y v r
      go y v r x u mid e (there f p) = more y v r x u mid f ((k x u mid p).by y v r e)
      go y v r x u mid e (at_key w c place f at is) =
          at_key w c place (ap (λ o. came o next) f) at (done_state (broke w c) u (λ u. other x u mid) y v r is (quiet (broke w c) x mid) e)

  tested_tells : (Q : Outcome → Type 0) (o : answers.Outcome X) (text : Text) (s : Outcome) (next other : X → Text → Reached Y Outcome) → ((x : X) (rest : Text) → Tested Q (next x rest) (other x rest))
      → Tested Q (tells o text s next) (tells o text s other)
  tested_tells Q (Read x taken rest) text s next other h = h x rest
  tested_tells Q (Missing cause) text s next other h = record { by = λ y v r e. absurd (cc e) }
  tested_tells Q (Bad cause upto) text s next other h = record { by = λ y v r e. absurd (cc e) }

-- ---- loops
-- the one parser is the other, up to such an attribute, on each state of which P holds
pub record AllTested (P : Outcome → Type 0) (o f : Reads Outcome) : Type 0 where
  pub at : (text : Text) (s : Outcome) → P s → Tested (Follows s) (o text s) (f text s)
  pub quiet : (z : Failure) → Quiet (failed z) f

module _ (P : Outcome → Type 0) (keeps : (s t : Outcome) → P s → Follows s t → P t) (o f : Reads Outcome) (h : AllTested P o f) where
  stays : (text : Text) (s : Outcome) → Tested (Follows s) (Advanced (tt {0}) s text) (Advanced tt s text)
  stays text s = tested_there (Follows s) (tt {0}) s text (follows_same s)

  -- one item, and then others
  item_more : (text : Text) (s : Outcome) (next other : Unit {0} → Outcome → Text → Reached (Unit {0}) Outcome) → P s
      → ((t : Outcome) (rest : Text) → P t → Tested (Follows t) (next tt t rest) (other tt t rest)) → ((z : Failure) (rest : Text) → done_in (other tt (failed z) rest) ≡ failed z)
      → Tested (Follows s) (came (o text s) next) (came (f text s) other)
  item_more text s next other p k quiet = tested_came (Follows s) (Follows s) (o text s) (f text s) next other (h.at text s p)
      (λ _ t rest i. tested_weaker (Follows t) (Follows s) (next tt t rest) (other tt t rest) (λ u j. follows_both s t u i j) (k t rest (keeps s t p i)))
      (λ z _ rest. quiet z rest)

  pub tested_regions : (n : ℕ) (text : Text) (s : Outcome) → P s → Tested (Follows s) (regions_by o n text s) (regions_by f n text s)
  tested_regions zero text s p = stays text s
  tested_regions (suc n) text s p = tested_if (Follows s) (begins_region text) _ _ _ _
      (item_more text s (λ _ t rest. regions_by o n (after_space rest) t) (λ _ t rest. regions_by f n (after_space rest) t) p (λ t rest q. tested_regions n (after_space rest) t q)
      (λ z rest. quiet_regions (failed z) f (h.quiet z) n (after_space rest))) (stays text s)

  tested_more : (n : ℕ) (text : Text) (s : Outcome) → P s → Tested (Follows s) (more_by o n text s) (more_by f n text s)
  tested_more zero text s p = stays text s
  tested_more (suc n) text s p = tested_if (Follows s) (begins (the 59) text) _ _ _ _
      (item_more (after_space (without_first text)) s (λ _ t rest. more_by o n (after_space rest) t) (λ _ t rest. more_by f n (after_space rest) t) p (λ t rest q. tested_more n (after_space rest) t q)
      (λ z rest. quiet_more (failed z) f (h.quiet z) n (after_space rest))) (stays text s)

  pub tested_operations : (text : Text) (s : Outcome) → P s → Tested (Follows s) (operations_by o text s) (operations_by f text s)
  tested_operations text s p = tested_if (Follows s) (begins_operation text) _ _ _ _
      (item_more text s (λ _ t rest. more_by o (length rest) (after_space rest) t) (λ _ t rest. more_by f (length rest) (after_space rest) t) p (λ t rest q. tested_more (length rest) (after_space rest) t q)
      (λ z rest. quiet_more (failed z) f (h.quiet z) (length rest) (after_space rest))) (stays text s)

  pub tested_blocks : (n : ℕ) (text : Text) (s : Outcome) → P s → Tested (Follows s) (blocks_by o n text s) (blocks_by f n text s)
  tested_blocks zero text s p = stays text s
  tested_blocks (suc n) text s p = tested_if (Follows s) (begins_block text) _ _ _ _
      (item_more text s (λ _ t rest. blocks_by o n (after_space rest) t) (λ _ t rest. blocks_by f n (after_space rest) t) p (λ t rest q. tested_blocks n (after_space rest) t q)
      (λ z rest. quiet_blocks (failed z) f (h.quiet z) n (after_space rest))) (stays text s)

-- ---- parts of which none is a key that is refused
views_both : {T A X : Type 0} (f : Piece ℕ T A → List X) (ps qs : List (Part ℕ T A)) → views f (ps ++ qs) ≡ views f ps ++ views f qs
views_both f [] qs = refl
views_both f (tree.piece p ∷ ps) qs = ap (λ z. f p ++ z) (views_both f ps qs) ∙ sym (append_assoc (f p) (views f ps) (views f qs))
views_both f (tree.region i ∷ ps) qs = views_both f ps qs
views_both f (tree.regions ∷ ps) qs = views_both f ps qs

module _ {T A : Type 0} (types_at : Text → answers.Outcome T) (types_written : T → Text) (reading : Text → answers.Outcome A) (written : A → Text) (dialects : List (Text × Table)) (types_split : Splits types_at) (splits : Splits reading) (words : NeedsWord reading) (path : ℕ → Path) where
  abbrev attr : Text → answers.Outcome (AttrView A)
  attr = attr_at reading

  -- the actions where keys are tested, and where they are not
  abbrev tests : Actions T A Outcome
  tests = naming (format_of dialects) path

  abbrev free : Actions T A Outcome
  free = freely tests

  -- a piece after white space
  module _ (step : Step) (text : Text) (p : Piece ℕ T A) (taken mid : Text) (e : (space_at ▷ piece_at types_at attr (setting true true) step) text ≡ Read p taken mid) where
    pub spaced_tested : ReadOrStops text ((space_at ▷ piece_at types_at attr (setting true false) step) text) p mid (key_failures p)
    spaced_tested =
        let a = followed_read (space_at text) (λ _ t. piece_at types_at attr (setting true true) step t) p taken mid e in
        let spaced : a.middle ≡ after_space text = cc a.first in
        let r = inside_read types_at types_written reading written (format_of dialects) types_split splits true step a.middle p a.more mid a.second in
        go (subst (λ t. ReadOrStops t (piece_at types_at attr (setting true false) step t) p mid (key_failures p)) spaced
        (piece_inside types_at types_written reading written (format_of dialects) types_split splits words step p a.middle mid r.0))
      where
        go : ReadOrStops (after_space text) (piece_at types_at attr (setting true false) step (after_space text)) p mid (key_failures p)
            → ReadOrStops text ((space_at ▷ piece_at types_at attr (setting true false) step) text) p mid (key_failures p)
        go (inl (none, (taken, f))) = inl (none, (_, followed-read (space_at text) (λ _ t. piece_at types_at attr (setting true false) step t) tt p (front is_whitespace text) (after_space text) taken mid refl f))
        go (inr s) = inr (stops_second (λ _ t. piece_at types_at attr (setting true false) step t) (space_at text) tt (front is_whitespace text) (after_space text) text refl (front_after is_whitespace text) s)

  -- ---- the parts before the first region
  data FrontEnds (ss : List Step) (found : List (Part ℕ T A)) (text : Text) (s : Outcome) (parts : List (Part ℕ T A)) (mid : Text) : Type 0 where
    all_read : front_by dialects types_at attr tests (setting true false) ss found text s ≡ Advanced parts s mid → FrontEnds ss found text s parts mid
    a_key : (k : Failure) (place : ℕ) (others : List Failure) → front_by dialects types_at attr tests (setting true false) ss found text s ≡ Stopped s (fault_for k.cause) place → k.at ≡ Some place
        → views key_failures parts ≡ k ∷ others → FrontEnds ss found text s parts mid

  -- what is found stays at the front
  front_extends : (ss : List Step) (found parts : List (Part ℕ T A)) (text : Text) (s t : Outcome) (mid : Text) → front_by dialects types_at attr free (setting true true) ss found text s ≡ Advanced parts t mid
      → (t ≡ s) × ((more : List (Part ℕ T A)) × (parts ≡ found ++ more))
  front_extends [] found parts text s t mid e =
      let f : found ≡ parts = cc e in
      let g : s ≡ t = cc e in
      (sym g, ([], sym f ∙ sym (append-nil found)))
  front_extends (step ∷ ss) found parts text s t mid e =
      let a = tells_read ((space_at ▷ piece_at types_at attr (setting true true) step) text) text s (λ p rest. front_by dialects types_at attr free (setting true true) ss (found ++ tree.piece p ∷ []) rest s) parts t mid e in
      let k = front_extends ss (found ++ tree.piece a.0 ∷ []) parts a.2 s t mid a.4 in
      (k.0, (tree.piece a.0 ∷ k.1.0, k.1.1 ∙ append_assoc found (tree.piece a.0 ∷ []) k.1.0))

  front_ends : (ss : List Step) (found parts : List (Part ℕ T A)) (text : Text) (s t : Outcome) (mid : Text) → views key_failures found ≡ [] → front_by dialects types_at attr free (setting true true) ss found text s ≡ Advanced parts t mid
      → FrontEnds ss found text s parts mid
  front_ends [] found parts text s t mid none e = all_read (e ∙ ap (λ z. Advanced parts z mid) (front_extends [] found parts text s t mid e).0)
  front_ends (step ∷ ss) found parts text s t mid none e =
      let a = tells_read ((space_at ▷ piece_at types_at attr (setting true true) step) text) text s (λ p rest. front_by dialects types_at attr free (setting true true) ss (found ++ tree.piece p ∷ []) rest s) parts t mid e in
      go (λ p m. front_ends ss (found ++ tree.piece p ∷ []) parts m s t mid) a.0 a.2 a.4 (spaced_tested step text a.0 a.1 a.2 a.3)
    where
      with_piece : (p : Piece ℕ T A) (fs : List Failure) → key_failures p ≡ fs → views key_failures (found ++ tree.piece p ∷ []) ≡ fs
      with_piece p fs is = views_both key_failures found (tree.piece p ∷ []) ∙ (ap (λ z. z ++ views key_failures (tree.piece p ∷ [])) none ∙ (append-nil (key_failures p) ∙ is))

      step_on : (p : Piece ℕ T A) (m taken : Text) → (space_at ▷ piece_at types_at attr (setting true false) step) text ≡ Read p taken m
          → front_by dialects types_at attr tests (setting true false) (step ∷ ss) found text s ≡ front_by dialects types_at attr tests (setting true false) ss (found ++ tree.piece p ∷ []) m s
      step_on p m taken r = tells_found _ text s (λ p rest. front_by dialects types_at attr tests (setting true false) ss (found ++ tree.piece p ∷ []) rest s) p taken m r

      more : (p : Piece ℕ T A) (m taken : Text) → (space_at ▷ piece_at types_at attr (setting true false) step) text ≡ Read p taken m → FrontEnds ss (found ++ tree.piece p ∷ []) m s parts mid → FrontEnds (step ∷ ss) found text s parts mid
      more p m taken r (all_read e) = all_read (step_on p m taken r ∙ e)
      more p m taken r (a_key k place others e at is) = a_key k place others (step_on p m taken r ∙ e) at is

      go : ((p : Piece ℕ T A) (m : Text) → views key_failures (found ++ tree.piece p ∷ []) ≡ [] → front_by dialects types_at attr free (setting true true) ss (found ++ tree.piece p ∷ []) m s ≡ Advanced parts t mid → FrontEnds ss (found ++ tree.piece p ∷ []) m s parts mid)
          → (p : Piece ℕ T A) (m : Text) → front_by dialects types_at attr free (setting true true) ss (found ++ tree.piece p ∷ []) m s ≡ Advanced parts t mid
          → ReadOrStops text ((space_at ▷ piece_at types_at attr (setting true false) step) text) p m (key_failures p) → FrontEnds (step ∷ ss) found text s parts mid
      go again p m e (inl (fine, (taken, r))) = more p m taken r (again p m (with_piece p [] fine) e)
      go again p m e (inr z) =
          let x = (front_extends ss (found ++ tree.piece p ∷ []) parts m s t mid e).1 in
          a_key z.first (length z.stop) (z.others ++ views key_failures x.0)
          (ap (λ o. tells o text s (λ p rest. front_by dialects types_at attr tests (setting true false) ss (found ++ tree.piece p ∷ []) rest s)) z.bad
          ∙ ap (Stopped s (fault_for z.first.cause)) (omega (arith, ap length z.splits, length-append z.upto z.stop))) z.at
          (ap (views key_failures) x.1 ∙ (views_both key_failures (found ++ tree.piece p ∷ []) x.0 ∙ ap (λ z. z ++ views key_failures x.0) (with_piece p (z.first ∷ z.others) z.is)))

  -- ---- the parts from the first region on, and the end
  quiet_inner_steps : (inner : Reads Outcome) → ((z : Failure) → Quiet (failed z) inner) → (place : ℕ) (id : Id) (ss : List Step) (found : List (Part ℕ T A)) (text : Text) (z : Failure)
      → done_in (steps_by dialects types_at attr free inner place id ss found text (failed z)) ≡ failed z
  quiet_inner_steps inner q place id ss found text z = quiet_steps dialects types_at attr free (failed z) (freely_keeps (format_of dialects) path z) inner (q z) place id ss found text

  module _ (o f : Reads Outcome) (h : AllTested (λ s. ⊤) o f) (place : ℕ) (id : Id) where
    -- a piece
    late_tested : (step : Step) (ss : List Step) (found : List (Part ℕ T A)) (text : Text) (s : Outcome)
        → ((p : Piece ℕ T A) (rest : Text) (t : Outcome) → Tested (Follows t) (steps_by dialects types_at attr tests o place id ss (found ++ tree.piece p ∷ []) rest t) (steps_by dialects types_at attr free f place id ss (found ++ tree.piece p ∷ []) rest t))
        → Tested (Follows s) (tells ((space_at ▷ piece_at types_at attr (setting true false) step) text) text s (λ p rest. steps_by dialects types_at attr tests o place id ss (found ++ tree.piece p ∷ []) rest (tests.late place id p s)))
        (tells ((space_at ▷ piece_at types_at attr (setting true true) step) text) text s (λ p rest. steps_by dialects types_at attr free f place id ss (found ++ tree.piece p ∷ []) rest (tests.late place id p s)))
    late_tested step ss found text s again = record {
      by = λ y v r e. let a = tells_read ((space_at ▷ piece_at types_at attr (setting true true) step) text) text s (λ p rest. steps_by dialects types_at attr free f place id ss (found ++ tree.piece p ∷ []) rest (tests.late place id p s)) y v r e in
          go y v r a.0 a.2 a.4 (spaced_tested step text a.0 a.1 a.2 a.3);
    }
      where
        next : Piece ℕ T A → Text → Reached (List (Part ℕ T A)) Outcome
        next p rest = steps_by dialects types_at attr tests o place id ss (found ++ tree.piece p ∷ []) rest (tests.late place id p s)

        more : (y : List (Part ℕ T A)) (v : Outcome) (r : Text) (p : Piece ℕ T A) (m taken : Text) → (space_at ▷ piece_at types_at attr (setting true false) step) text ≡ Read p taken m
            → Ends (Follows (tests.late place id p s)) (next p m) y v r → Ends (Follows s) (tells ((space_at ▷ piece_at types_at attr (setting true false) step) text) text s next) y v r
        more y v r p m taken e (there f k) = there (tells_found _ text s next p taken m e ∙ f) (follows_both s (tests.late place id p s) v (follows_acted (acts_of_piece (format_of dialects) path place id p) s) k)
        more y v r p m taken e (at_key w c here f at is) = at_key w c here (tells_found _ text s next p taken m e ∙ f) at is

        go : (y : List (Part ℕ T A)) (v : Outcome) (r : Text) (p : Piece ℕ T A) (m : Text) → steps_by dialects types_at attr free f place id ss (found ++ tree.piece p ∷ []) m (tests.late place id p s) ≡ Advanced y v r
            → ReadOrStops text ((space_at ▷ piece_at types_at attr (setting true false) step) text) p m (key_failures p) → Ends (Follows s) (tells ((space_at ▷ piece_at types_at attr (setting true false) step) text) text s next) y v r
        go y v r p m e (inl (fine, (taken, q))) = more y v r p m taken q ((again p m (tests.late place id p s)).by y v r e)
        go y v r p m e (inr z) = at_key s z.first (length z.stop)
            (ap (λ o. tells o text s next) z.bad ∙ ap (Stopped s (fault_for z.first.cause)) (omega (arith, ap length z.splits, length-append z.upto z.stop))) z.at
            (done_state (broke s z.first) (tests.late place id p s) (λ u. steps_by dialects types_at attr free f place id ss (found ++ tree.piece p ∷ []) m u) y v r
            (late_broke (format_of dialects) path place id p s z.first z.others z.is) (quiet_inner_steps f h.quiet place id ss (found ++ tree.piece p ∷ []) m (broke s z.first)) e)

    steps_tested : (ss : List Step) (found : List (Part ℕ T A)) (text : Text) (s : Outcome)
        → Tested (Follows s) (steps_by dialects types_at attr tests o place id ss found text s) (steps_by dialects types_at attr free f place id ss found text s)
    steps_tested [] found text s = tested_there (Follows s) found s text (follows_same s)
    steps_tested (one i ∷ ss) found text s = tested_came (Follows s) (Follows s) (o (after_space text) s) (f (after_space text) s)
        (λ _ t rest. steps_by dialects types_at attr tests o place id ss (found ++ tree.region i ∷ []) rest t) (λ _ t rest. steps_by dialects types_at attr free f place id ss (found ++ tree.region i ∷ []) rest t)
        (h.at (after_space text) s tt)
        (λ _ t rest k. tested_weaker (Follows t) (Follows s) _ _ (λ u j. follows_both s t u k j) (steps_tested ss (found ++ tree.region i ∷ []) rest t))
        (λ z _ rest. quiet_inner_steps f h.quiet place id ss (found ++ tree.region i ∷ []) rest z)
    steps_tested (all ∷ ss) found text s = tested_came (Follows s) (Follows s) (regions_by o (length text) (after_space text) s) (regions_by f (length text) (after_space text) s)
        (λ _ t rest. steps_by dialects types_at attr tests o place id ss (found ++ tree.regions ∷ []) rest t) (λ _ t rest. steps_by dialects types_at attr free f place id ss (found ++ tree.regions ∷ []) rest t)
        (tested_regions (λ s. ⊤) (λ s t p k. tt) o f h (length text) (after_space text) s tt)
        (λ _ t rest k. tested_weaker (Follows t) (Follows s) _ _ (λ u j. follows_both s t u k j) (steps_tested ss (found ++ tree.regions ∷ []) rest t))
        (λ z _ rest. quiet_inner_steps f h.quiet place id ss (found ++ tree.regions ∷ []) rest z)
    steps_tested (flat d ∷ ss) found text s = late_tested (flat d) ss found text s (λ p rest t. steps_tested ss (found ++ tree.piece p ∷ []) rest t)
    steps_tested (types ∷ ss) found text s = late_tested types ss found text s (λ p rest t. steps_tested ss (found ++ tree.piece p ∷ []) rest t)

    -- the end of an operation
    end_tested : (names : List (Name ℕ)) (parts : List (Part ℕ T A)) (text : Text) (s : Outcome)
        → Tested (Follows s) (end_by dialects types_at attr tests place names id parts text s) (end_by dialects types_at attr free place names id parts text s)
    end_tested names parts text s =
        let t = tests.closes place names id parts s in
        tested_tells (Follows s) ((space_at ▷ mark_if_at) text) text t (λ m rest. Advanced tt (tests.marks m t) rest) (λ m rest. Advanced tt (tests.marks m t) rest) (λ m rest.
        tested_there (Follows s) tt (tests.marks m t) rest (follows_both s t (tests.marks m t) (follows_acted (acts_at_end {T = T} {A = A} (format_of dialects) path place names id parts) s) (follows_acted (mark_acts m) t)))

    -- what follows the parts before the first region
    module _ (names : List (Name ℕ)) where
      abbrev after_front_tests : List (Part ℕ T A) → Outcome → Text → Reached (Unit {0}) Outcome
      after_front_tests found t rest = came (steps_by dialects types_at attr tests o place id (region_steps (steps_in dialects id)) found rest (tests.uses place id found t)) (λ parts u left. end_by dialects types_at attr tests place names id parts left u)

      abbrev after_front_free : List (Part ℕ T A) → Outcome → Text → Reached (Unit {0}) Outcome
      after_front_free found t rest = came (steps_by dialects types_at attr free f place id (region_steps (steps_in dialects id)) found rest (tests.uses place id found t)) (λ parts u left. end_by dialects types_at attr free place names id parts left u)

      rest_from : (found : List (Part ℕ T A)) (s : Outcome) (rest : Text)
          → Tested (Follows s) (came (steps_by dialects types_at attr tests o place id (region_steps (steps_in dialects id)) found rest s) (λ parts u left. end_by dialects types_at attr tests place names id parts left u))
          (came (steps_by dialects types_at attr free f place id (region_steps (steps_in dialects id)) found rest s) (λ parts u left. end_by dialects types_at attr free place names id parts left u))
      rest_from found s rest = tested_came (Follows s) (Follows s) _ _ (λ parts u left. end_by dialects types_at attr tests place names id parts left u) (λ parts u left. end_by dialects types_at attr free place names id parts left u)
          (steps_tested (region_steps (steps_in dialects id)) found rest s)
          (λ parts t left k. tested_weaker (Follows t) (Follows s) _ _ (λ u j. follows_both s t u k j) (end_tested names parts left t))
          (λ z parts left. quiet_end dialects types_at attr free (failed z) (freely_keeps (format_of dialects) path z) place names id parts left)

      pub rest_tested : (found : List (Part ℕ T A)) (s : Outcome) (rest : Text) → Tested (Follows s) (after_front_tests found s rest) (after_front_free found s rest)
      rest_tested found s rest =
          let t = tests.uses place id found s in
          tested_weaker (Follows t) (Follows s) _ _ (λ u j. follows_both s t u (follows_acted (views (acts_of_piece {T = T} {A = A} (format_of dialects) path place id) found) s) j) (rest_from found t rest)

      quiet_rest : (z : Failure) (found : List (Part ℕ T A)) (rest : Text)
          → done_in (came (steps_by dialects types_at attr free f place id (region_steps (steps_in dialects id)) found rest (failed z)) (λ parts u left. end_by dialects types_at attr free place names id parts left u)) ≡ failed z
      quiet_rest z found rest = quiet_came (failed z) (steps_by dialects types_at attr free f place id (region_steps (steps_in dialects id)) found rest (failed z)) (λ parts u left. end_by dialects types_at attr free place names id parts left u) (quiet_inner_steps f h.quiet place id (region_steps (steps_in dialects id)) found rest z)
          (λ parts left. quiet_end dialects types_at attr free (failed z) (freely_keeps (format_of dialects) path z) place names id parts left)

      -- what follows an id, inside of a region
      body_tested : (text : Text) (s : Outcome) → Ready s → Tested (Follows s) (body_by dialects types_at attr tests o true place names id text s) (body_by dialects types_at attr free f true place names id text s)
      body_tested text s ready = record {
        by = λ y v r e. let a = came_read (front_by dialects types_at attr free (setting true true) (front_steps (steps_in dialects id)) [] text s) after_front_free y v r e in
            go y v r a.0 a.1 a.2 (front_extends (front_steps (steps_in dialects id)) [] a.0 text s a.1 a.2 a.3).0 a.4 (front_ends (front_steps (steps_in dialects id)) [] a.0 text s a.1 a.2 refl a.3);
      }
        where
          more : (y : Unit {0}) (v : Outcome) (r : Text) (parts : List (Part ℕ T A)) (mid : Text) → front_by dialects types_at attr tests (setting true false) (front_steps (steps_in dialects id)) [] text s ≡ Advanced parts s mid
              → Ends (Follows s) (after_front_tests parts s mid) y v r → Ends (Follows s) (body_by dialects types_at attr tests o true place names id text s) y v r
          more y v r parts mid e (there f k) = there (came_found _ after_front_tests parts s mid e ∙ f) k
          more y v r parts mid e (at_key w c here f at is) = at_key w c here (came_found _ after_front_tests parts s mid e ∙ f) at is

          go : (y : Unit {0}) (v : Outcome) (r : Text) (parts : List (Part ℕ T A)) (t : Outcome) (mid : Text) → t ≡ s → after_front_free parts t mid ≡ Advanced y v r → FrontEnds (front_steps (steps_in dialects id)) [] text s parts mid
              → Ends (Follows s) (body_by dialects types_at attr tests o true place names id text s) y v r
          go y v r parts t mid same e (all_read q) = more y v r parts mid q ((rest_tested parts s mid).by y v r (sym (ap (λ t. after_front_free parts t mid) same) ∙ e))
          go y v r parts t mid same e (a_key k here others q at is) = at_key s k here (ap (λ o. came o after_front_tests) q) at
              (done_state (broke s k) (tests.uses place id parts t)
              (λ u. came (steps_by dialects types_at attr free f place id (region_steps (steps_in dialects id)) parts mid u) (λ parts u left. end_by dialects types_at attr free place names id parts left u)) y v r
              (ap (tests.uses place id parts) same ∙ uses_broke (format_of dialects) path place id parts s k others ready is) (quiet_rest (broke s k) parts mid) e)

  -- ---- operations, blocks and regions
  operation_tested : (o f : Bool → Reads Outcome) → ((iso : Bool) → AllTested (λ s. ⊤) (o iso) (f iso)) → AllTested Ready (operation_by dialects types_at attr tests o true) (operation_by dialects types_at attr free f true)
  operation_tested o f h = record {
    at = λ text s ready. tested_tells (Follows s) (led_at dialects text) text s _ _ (λ lead rest. body_tested (o (isolated dialects lead.1)) (f (isolated dialects lead.1)) (h (isolated dialects lead.1)) (length text) lead.1 lead.0 rest s ready);
    quiet = λ z. quiet_operation dialects types_at attr free (failed z) (freely_keeps (format_of dialects) path z) f (λ iso. (h iso).quiet z) true;
  }

  block_tested : (o f : Reads Outcome) → AllTested Ready o f → AllTested Ready (block_by dialects types_at attr tests o) (block_by dialects types_at attr free f)
  block_tested o f h = record {
    at = λ text s ready. tested_tells (Follows s) (head_at types_at attr text) text s _ _ (λ head rest.
        let t = tests.heads head s in
        let k = follows_acted (header_acts (path head.label.place) head) s in
        tested_weaker (Follows t) (Follows s) _ _ (λ u j. follows_both s t u k j) (h.at (after_space rest) t (ready_follows s t ready k)));
    quiet = λ z. quiet_block dialects types_at attr free (failed z) (freely_keeps (format_of dialects) path z) f (h.quiet z);
  }

  region_tested : (o f : Reads Outcome) → AllTested Ready o f → (iso : Bool) → AllTested (λ s. ⊤) (region_by dialects types_at attr tests o iso) (region_by dialects types_at attr free f iso)
  region_tested o f h iso = record {
    at = λ text s _.
        let t = tests.enters iso s in
        tested_tells (Follows s) ((word (codes "{") ▷ space_at) text) text t _ _ (λ _ rest.
        tested_came (Follows t) (Follows s) (o rest t) (f rest t) (λ _ u left. tells (word (codes "}") left) left u (λ _ end. Advanced tt (tests.leaves iso (length text) u) end))
        (λ _ u left. tells (word (codes "}") left) left u (λ _ end. Advanced tt (tests.leaves iso (length text) u) end)) (h.at rest t (enters_ready iso s))
        (λ _ u left k. tested_tells (Follows s) (word (codes "}") left) left u _ _ (λ _ end. tested_there (Follows s) tt (tests.leaves iso (length text) u) end (leaves_follows iso (length text) s u k)))
        (λ z _ left. quiet_tells (failed z) (word (codes "}") left) left (λ _ end. Advanced tt (tests.leaves iso (length text) (failed z)) end) (λ _ end. refl)));
    quiet = λ z. quiet_region dialects types_at attr free (failed z) (freely_keeps (format_of dialects) path z) f (h.quiet z) iso;
  }

  within_tested : (n : ℕ) (iso : Bool) → AllTested (λ s. ⊤) (region_within dialects types_at attr tests n iso) (region_within dialects types_at attr free n iso)
  within_tested zero iso = record { at = λ text s _. record { by = λ y v r e. absurd (cc e) }; quiet = λ z. record { at = λ text. refl } }
  within_tested (suc n) iso =
      let o = operation_by dialects types_at attr tests (region_within dialects types_at attr tests n) true in
      let f = operation_by dialects types_at attr free (region_within dialects types_at attr free n) true in
      let item : AllTested Ready o f = operation_tested (region_within dialects types_at attr tests n) (region_within dialects types_at attr free n) (within_tested n) in
      let operations : AllTested Ready (operations_by o) (operations_by f) = record { at = tested_operations Ready ready_follows o f item; quiet = λ z. record { at = quiet_operations (failed z) f (item.quiet z) } } in
      let one_block = block_tested (operations_by o) (operations_by f) operations in
      let blocks : AllTested Ready (λ rest t. blocks_by (block_by dialects types_at attr tests (operations_by o)) (length rest) rest t) (λ rest t. blocks_by (block_by dialects types_at attr free (operations_by f)) (length rest) rest t)
      = record { at = λ rest. tested_blocks Ready ready_follows _ _ one_block (length rest) rest; quiet = λ z. record { at = λ rest. quiet_blocks (failed z) _ (one_block.quiet z) (length rest) rest } } in
      let all = region_tested _ _ blocks iso in
      record { at = all.at; quiet = all.quiet }

  -- A region is parsed as where keys are not tested, up to the first attribute that is not allowed under its key.
  pub region_is_tested : (iso : Bool) → AllTested (λ s. ⊤) (region_at dialects types_at attr tests iso) (region_at dialects types_at attr free iso)
  region_is_tested iso = record {
    at = λ text s _. (within_tested (suc (length text)) iso).at text s tt;
    quiet = λ z. quiet_region_at dialects types_at attr free (failed z) (freely_keeps (format_of dialects) path z) iso;
  }
