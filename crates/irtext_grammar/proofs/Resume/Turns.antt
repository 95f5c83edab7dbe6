-- Each turn of a loop over the open frames is one equation between two points of the parse. For what the text has at the next position,
-- the table names the lemma that is the turn, and the lemma by which the text is at fault there:
--
--   next           what follows                            turn                   fault
--   to_come        lead and front pieces                   operation_begins       no_lead, no_front
--   an_operation   a piece that a step parses              piece_reads            no_piece
--                  one region's brace                      region_begins          no_region
--                  all regions: a brace                    another_region
--                  all regions: no brace                   no_more_regions
--                  no step is left: a mark, or none        operation_ends         no_end
--   a_region       a block's header                        block_begins           no_block
--                  no block: the brace after the last      region_ends            no_brace
--   a_block        the first operation                     first_operation
--                  `;` and another operation               another_operation
--                  no operation                            no_operation, no_more_operations
--
-- An action that precedes what is parsed is a turn of its own if it fails, at the same text: region_enters, another_enters,
-- operation_closes.
use Rattle.std.proofs.Common.{◌≡◌, ℕ, ◌-◌, ◌≤◌, Bool, true, false, cond, List, [], ◌∷◌, ◌++◌, Option, Some, length, codes, refl, ap, sym, ◌∙◌, le_refl}
use Rattle.std.specs.Char.{is_whitespace}
use Rattle.std.specs.Prelude.{⊤}
use Rattle.irtext_base.specs.Text.{Text, begins, after_space}
use Rattle.irtext_base.specs.Reading.{the}
use Rattle.irtext_base.specs.Format.{Id}
use Rattle.irtext_base.specs.Faults.{Fault}
use Rattle.irtext_base.specs.Answers.{Outcome, Read, Missing, Bad, demanded, followed}
use Rattle.irtext_base.specs.Locations.{AttrView}
use Rattle.irtext_base.proofs.Characters.{after_twice}
use Rattle.irtext_context.specs.Dialects.{Table}
use Rattle.irtext_tokens.specs.Infix.{◌▷◌}
use Rattle.irtext_tokens.specs.Tokens.{space_at, word}
use Rattle.irtext_grammar.specs.Contexts.Formats.{isolated}
use Rattle.irtext_grammar.specs.Grammar.Tree as tree
use Rattle.irtext_grammar.specs.Grammar.Tree.{Name, Mark, Piece, Part, Head}
use Rattle.irtext_grammar.specs.Readers.Parts.{without_first}
use Rattle.irtext_grammar.proofs.Locations.RestLengths.{space_bound}
use Rattle.irtext_grammar.specs.Heads.{Step, flat, types, one, all, front_steps, piece_at, head_at, led_at, mark_if_at, setting}
use Rattle.irtext_grammar.specs.Reached.{Reached, Advanced, Stopped, came, tells, Actions, Reads, begins_operation, begins_region, begins_block, steps_in, regions_by, blocks_by, front_by, steps_by, end_by, body_by, region_at, operation_at}
use Rattle.irtext_grammar.specs.Resume.{OpenOperation, with_steps, begun, is_flat, Open, to_come, an_operation, a_region, a_block, Pops, block_at, rest_of, Goes, StoppedAt}
use Rattle.irtext_grammar.proofs.Knot.Loops.{tells_found}
use Rattle.irtext_grammar.proofs.Resume.Frames.{tells_bad, came_came, goes_as, goes_in, goes_out, stuck_here}
use Rattle.irtext_grammar.proofs.Resume.Unbounded.{Unbounded}

-- white space was passed
tight : {X : Type 0} (o : Outcome X) (x : ⊤) (taken rest : Text) → followed o (λ _ t. space_at t) ≡ Read x taken rest → after_space rest ≡ rest
tight (Read y first left) x taken rest e =
    let q : after_space left ≡ rest = cc in
    ap after_space (sym q) ∙ (after_twice is_whitespace left ∙ q)
tight (Missing cause) x taken rest e = absurd (cc)
tight (Bad cause upto) x taken rest e = absurd (cc)

module _ {T A S : Type 0} (dialects : List (Text × Table)) (types_at : Text → Outcome T) (attr : Text → Outcome (AttrView A)) (does : Actions T A S) where
  -- the innermost open frame goes on as this, or the text is at fault
  abbrev Turns : Open T A → List (Open T A) → S → Text → Option (Open T A) → List (Open T A) → S → Text → Type 0
  Turns f frames s t = Goes dialects types_at attr does (Some f) frames s t

  abbrev Stops : Open T A → List (Open T A) → S → Text → S → Fault → ℕ → Type 0
  Stops f frames s t = StoppedAt dialects types_at attr does (Some f) frames s t

  abbrev left_of : Open T A → Reads S
  left_of = rest_of dialects types_at attr does

  abbrev item : Reads S
  item = operation_at dialects types_at attr does true

  abbrev block : Reads S
  block = block_at dialects types_at attr does

  abbrev inner : Bool → Reads S
  inner = region_at dialects types_at attr does

  -- what is left of an operation by these steps, and its end
  abbrev go_on : OpenOperation T A → List Step → List (Part ℕ T A) → S → Text → Reached (List (Part ℕ T A)) S
  go_on o ss ps u rest = steps_by dialects types_at attr does (inner (isolated dialects o.id)) o.place o.id ss ps rest u

  abbrev and_end : OpenOperation T A → List (Part ℕ T A) → S → Text → Reached Unit S
  and_end o parts u left = end_by dialects types_at attr does o.place o.names o.id parts left u

  -- ---- an operation begins
  module _ (frames : List (Open T A)) (inside : Bool) (s : S) (t : Text) where
    abbrev after_the_lead : List (Name ℕ) × Id → Text → Reached Unit S
    after_the_lead lead rest = body_by dialects types_at attr does (inner (isolated dialects lead.1)) inside (length t) lead.0 lead.1 rest s

    pub no_lead : (cause : Fault) (upto : Text) → demanded (led_at dialects t) ≡ Bad cause upto → Stops (to_come inside) frames s t s cause (length t - length upto)
    no_lead cause upto e = stuck_here (tells_bad (led_at dialects t) t s after_the_lead cause upto e)

    module _ (names : List (Name ℕ)) (id : Id) (taken r : Text) (e : led_at dialects t ≡ Read (names, id) taken r) where
      abbrev front : Reached (List (Part ℕ T A)) S
      front = front_by dialects types_at attr does (setting inside does.any_key) (front_steps (steps_in dialects id)) [] r s

      abbrev after_front : List (Part ℕ T A) → S → Text → Reached Unit S
      after_front found u rest = left_of (an_operation (begun dialects (length t) names id found)) rest (does.uses (length t) id found u)

      by_front : left_of (to_come inside) t s ≡ came front after_front
      by_front = tells_found (led_at dialects t) t s after_the_lead (names, id) taken r e

      pub operation_begins : (found : List (Part ℕ T A)) (r' : Text) → front ≡ Advanced found s r'
          → Turns (to_come inside) frames s t (Some (an_operation (begun dialects (length t) names id found))) frames (does.uses (length t) id found s) r'
      operation_begins found r' f = goes_as (by_front ∙ ap (λ o. came o after_front) f)

      pub no_front : (z : S) (cause : Fault) (place : ℕ) → front ≡ Stopped z cause place → Stops (to_come inside) frames s t z cause place
      no_front z cause place f = stuck_here (by_front ∙ ap (λ o. came o after_front) f)

  -- ---- an operation goes on
  module _ (o : OpenOperation T A) (frames : List (Open T A)) (s : S) (t : Text) where
    -- what is left where these steps are
    by_steps : (ss : List Step) → o.steps ≡ ss → left_of (an_operation o) t s ≡ left_of (an_operation (with_steps o ss o.parts)) t s
    by_steps ss e = ap (λ z. left_of (an_operation (with_steps o z o.parts)) t s) e

    -- a piece
    module _ (step : Step) (ss : List Step) (e : o.steps ≡ step ∷ ss) (f : is_flat step ≡ true) where
      abbrev next_piece : Step → Outcome (Piece ℕ T A)
      next_piece step = (space_at ▷ piece_at types_at attr (setting true does.any_key) step) t

      abbrev after_piece : Piece ℕ T A → Text → Reached (List (Part ℕ T A)) S
      after_piece p rest = go_on o ss (o.parts ++ tree.piece p ∷ []) (does.late o.place o.id p s) rest

      by_piece : left_of (an_operation o) t s ≡ came (tells (next_piece step) t s after_piece) (and_end o)
      by_piece = by_steps (step ∷ ss) e ∙ of_step step f
        where
          of_step : (step : Step) → is_flat step ≡ true → left_of (an_operation (with_steps o (step ∷ ss) o.parts)) t s ≡ came (tells (next_piece step) t s after_piece) (and_end o)
          of_step (flat d) f = refl
          of_step types f = refl
          of_step (one i) f = absurd (cc)
          of_step all f = absurd (cc)

      pub piece_reads : (p : Piece ℕ T A) (taken r : Text) → next_piece step ≡ Read p taken r
          → Turns (an_operation o) frames s t (Some (an_operation (with_steps o ss (o.parts ++ tree.piece p ∷ [])))) frames (does.late o.place o.id p s) r
      piece_reads p taken r h = goes_as (by_piece ∙ ap (λ z. came z (and_end o)) (tells_found (next_piece step) t s after_piece p taken r h))

      pub no_piece : (cause : Fault) (upto : Text) → demanded (next_piece step) ≡ Bad cause upto → Stops (an_operation o) frames s t s cause (length t - length upto)
      no_piece cause upto h = stuck_here (by_piece ∙ ap (λ z. came z (and_end o)) (tells_bad (next_piece step) t s after_piece cause upto h))

    -- its end
    module _ (e : o.steps ≡ []) where
      abbrev next_mark : Outcome (Option (Mark ℕ))
      next_mark = (space_at ▷ mark_if_at) t

      abbrev closed : S → S
      closed z = does.closes o.place o.names o.id o.parts z

      abbrev after_mark : S → Option (Mark ℕ) → Text → Reached Unit S
      after_mark z m rest = Advanced tt (does.marks m z) rest

      pub operation_ends : (m : Option (Mark ℕ)) (taken r : Text) (next : Option (Open T A)) (others : List (Open T A)) → next_mark ≡ Read m taken r → Pops frames next others
          → Turns (an_operation o) frames s t next others (does.marks m (closed s)) r
      operation_ends m taken r next others h p = goes_out next others p (by_steps [] e ∙ tells_found next_mark t (closed s) (after_mark (closed s)) m taken r h)

      pub no_end : (cause : Fault) (upto : Text) → demanded next_mark ≡ Bad cause upto → Stops (an_operation o) frames s t (closed s) cause (length t - length upto)
      no_end cause upto h = stuck_here (by_steps [] e ∙ tells_bad next_mark t (closed s) (after_mark (closed s)) cause upto h)

      -- it is closed before its mark is parsed
      pub operation_closes : (z : S) → closed s ≡ z → closed z ≡ z → Turns (an_operation o) frames s t (Some (an_operation o)) frames z t
      operation_closes z f g = goes_as (by_steps [] e ∙ (ap (λ u. tells next_mark t u (after_mark u)) (f ∙ sym g) ∙ sym (ap (λ ss. left_of (an_operation (with_steps o ss o.parts)) t z) e)))

  -- ---- a block's operations begin
  module _ (frames : List (Open T A)) (s : S) (t : Text) where
    abbrev after_first : Reached Unit S
    after_first = came (item (after_space t) s) (λ _ z rest. left_of (a_block false) rest z)

    pub first_operation : begins_operation (after_space t) ≡ true → Turns (a_block true) frames s t (Some (to_come true)) (frames ++ a_block false ∷ []) s (after_space t)
    first_operation b = goes_in (a_block false) (ap (λ z. cond z after_first (Advanced tt s (after_space t))) b)

    pub no_operation : (next : Option (Open T A)) (others : List (Open T A)) → begins_operation (after_space t) ≡ false → Pops frames next others → Turns (a_block true) frames s t next others s (after_space t)
    no_operation next others b p = goes_out next others p (ap (λ z. cond z after_first (Advanced tt s (after_space t))) b)

  module _ (k : Unbounded dialects types_at attr does) where
    -- after white space no more text is left than before
    shorter : (t : Text) → length (after_space t) ≤ length t
    shorter t = space_bound (length t) t (le_refl (length t))

    -- ---- a region begins
    abbrev next_brace : Text → Outcome ⊤
    next_brace = word (codes "{") ▷ space_at

    -- the brace after a region's blocks
    abbrev and_brace : Bool → ℕ → Reached Unit S → Reached Unit S
    and_brace iso place o = came o (λ _ z left. tells (word (codes "}") left) left z (λ _ end. Advanced tt (does.leaves iso place z) end))

    abbrev after_brace : Bool → ℕ → S → ⊤ → Text → Reached Unit S
    after_brace iso place z x rest = and_brace iso place (blocks_by block (length rest) rest z)

    region_opens : (iso : Bool) (s : S) (u : Text) (x : ⊤) (taken r : Text) → next_brace u ≡ Read x taken r → inner iso u s ≡ left_of (a_region iso (length u)) r (does.enters iso s)
    region_opens iso s u x taken r e = k.region_is iso u s
        ∙ (tells_found (next_brace u) u (does.enters iso s) (after_brace iso (length u) (does.enters iso s)) x taken r e
        ∙ ap (λ v. and_brace iso (length u) (blocks_by block (length r) v (does.enters iso s))) (sym (tight (word (codes "{") u) x taken r e)))

    region_misses : (iso : Bool) (s : S) (u : Text) (cause : Fault) (upto : Text) → demanded (next_brace u) ≡ Bad cause upto → inner iso u s ≡ Stopped (does.enters iso s) cause (length u - length upto)
    region_misses iso s u cause upto e = k.region_is iso u s ∙ tells_bad (next_brace u) u (does.enters iso s) (after_brace iso (length u) (does.enters iso s)) cause upto e

    -- it is entered before its brace is parsed
    entered_once : (iso : Bool) (s z : S) (u : Text) → does.enters iso s ≡ z → does.enters iso z ≡ z → inner iso u s ≡ inner iso u z
    entered_once iso s z u f g = k.region_is iso u s ∙ (ap (λ y. tells (next_brace u) u y (after_brace iso (length u) y)) (f ∙ sym g) ∙ sym (k.region_is iso u z))

    module _ (o : OpenOperation T A) (frames : List (Open T A)) (s : S) (t : Text) where
      abbrev iso : Bool
      iso = isolated dialects o.id

      -- a region, and what is left of the operation by these steps
      abbrev then_steps : List Step → List (Part ℕ T A) → Reached Unit S → Reached Unit S
      then_steps ss ps z = came z (λ _ u rest. left_of (an_operation (with_steps o ss ps)) rest u)

      -- one region
      module _ (i : ℕ) (ss : List Step) (e : o.steps ≡ one i ∷ ss) where
        abbrev after_one : Reached Unit S → Reached Unit S
        after_one = then_steps ss (o.parts ++ tree.region i ∷ [])

        by_one : (s : S) → left_of (an_operation o) t s ≡ after_one (inner iso (after_space t) s)
        by_one s = by_steps o frames s t (one i ∷ ss) e ∙ came_came (inner iso (after_space t) s) (λ _. go_on o ss (o.parts ++ tree.region i ∷ [])) (and_end o)

        pub region_begins : (x : ⊤) (taken r : Text) → next_brace (after_space t) ≡ Read x taken r
            → Turns (an_operation o) frames s t (Some (a_region iso (length (after_space t)))) (frames ++ an_operation (with_steps o ss (o.parts ++ tree.region i ∷ [])) ∷ []) (does.enters iso s) r
        region_begins x taken r h = goes_in (an_operation (with_steps o ss (o.parts ++ tree.region i ∷ []))) (by_one s ∙ ap after_one (region_opens iso s (after_space t) x taken r h))

        pub no_region : (cause : Fault) (upto : Text) → demanded (next_brace (after_space t)) ≡ Bad cause upto
            → Stops (an_operation o) frames s t (does.enters iso s) cause (length (after_space t) - length upto)
        no_region cause upto h = stuck_here (by_one s ∙ ap after_one (region_misses iso s (after_space t) cause upto h))

        pub region_enters : (z : S) → does.enters iso s ≡ z → does.enters iso z ≡ z → Turns (an_operation o) frames s t (Some (an_operation o)) frames z t
        region_enters z f g = goes_as (by_one s ∙ (ap after_one (entered_once iso s z (after_space t) f g) ∙ sym (by_one z)))

      -- all regions
      module _ (ss : List Step) (e : o.steps ≡ all ∷ ss) where
        abbrev other_regions : Unit {0} → S → Text → Reached Unit S
        other_regions x u rest = regions_by (inner iso) (length rest) (after_space rest) u

        -- what is left where a region begins, or none
        abbrev by_test : S → Bool → Reached Unit S
        by_test s b = came (came (cond b (came (inner iso (after_space t) s) other_regions) (Advanced tt s (after_space t))) (λ _. go_on o ss (o.parts ++ tree.regions ∷ []))) (and_end o)

        by_all : (s : S) (b : Bool) → begins_region (after_space t) ≡ b → left_of (an_operation o) t s ≡ by_test s b
        by_all s b h = by_steps o frames s t (all ∷ ss) e
            ∙ (ap (λ z. came (came z (λ _. go_on o ss (o.parts ++ tree.regions ∷ []))) (and_end o)) (k.regions_are iso (length t) (after_space t) s (shorter t)) ∙ ap (by_test s) h)

        pub no_more_regions : begins_region (after_space t) ≡ false → Turns (an_operation o) frames s t (Some (an_operation (with_steps o ss (o.parts ++ tree.regions ∷ [])))) frames s (after_space t)
        no_more_regions b = goes_as (by_all s false b)

        -- one more
        module _ (b : begins_region (after_space t) ≡ true) where
          abbrev after_another : Reached Unit S → Reached Unit S
          after_another z = came z (λ _ u rest. left_of (an_operation o) rest u)

          by_another : (s : S) → left_of (an_operation o) t s ≡ after_another (inner iso (after_space t) s)
          by_another s = by_all s true b
              ∙ (ap (λ z. came z (and_end o)) (came_came (inner iso (after_space t) s) other_regions (λ _. go_on o ss (o.parts ++ tree.regions ∷ [])))
              ∙ (came_came (inner iso (after_space t) s) (λ x u rest. came (other_regions x u rest) (λ _. go_on o ss (o.parts ++ tree.regions ∷ []))) (and_end o)
              ∙ ap (λ z. then_steps z o.parts (inner iso (after_space t) s)) (sym e)))

          pub another_region : (x : ⊤) (taken r : Text) → next_brace (after_space t) ≡ Read x taken r
              → Turns (an_operation o) frames s t (Some (a_region iso (length (after_space t)))) (frames ++ an_operation o ∷ []) (does.enters iso s) r
          another_region x taken r h = goes_in (an_operation o) (by_another s ∙ ap after_another (region_opens iso s (after_space t) x taken r h))

          pub another_enters : (z : S) → does.enters iso s ≡ z → does.enters iso z ≡ z → Turns (an_operation o) frames s t (Some (an_operation o)) frames z t
          another_enters z f g = goes_as (by_another s ∙ (ap after_another (entered_once iso s z (after_space t) f g) ∙ sym (by_another z)))

    -- ---- a region goes on
    module _ (iso : Bool) (place : ℕ) (frames : List (Open T A)) (s : S) (t : Text) where
      abbrev other_blocks : Unit {0} → S → Text → Reached Unit S
      other_blocks x u rest = blocks_by block (length rest) (after_space rest) u

      -- what is left where a block begins, or none
      abbrev by_block : Bool → Reached Unit S
      by_block b = and_brace iso place (cond b (came (block (after_space t) s) other_blocks) (Advanced tt s (after_space t)))

      by_blocks : (b : Bool) → begins_block (after_space t) ≡ b → left_of (a_region iso place) t s ≡ by_block b
      by_blocks b h = ap (and_brace iso place) (k.blocks_are (length t) (after_space t) s (shorter t)) ∙ ap by_block h

      -- a block, and the others
      module _ (b : begins_block (after_space t) ≡ true) where
        abbrev after_head : Head ℕ T A → Text → Reached Unit S
        after_head h rest = left_of (a_block true) rest (does.heads h s)

        abbrev then_blocks : Reached Unit S → Reached Unit S
        then_blocks z = came z (λ _ u rest. left_of (a_region iso place) rest u)

        by_head : left_of (a_region iso place) t s ≡ then_blocks (tells (head_at types_at attr (after_space t)) (after_space t) s after_head)
        by_head = by_blocks true b ∙ came_came (block (after_space t) s) other_blocks (λ _ z left. tells (word (codes "}") left) left z (λ _ end. Advanced tt (does.leaves iso place z) end))

        pub block_begins : (h : Head ℕ T A) (taken r : Text) → head_at types_at attr (after_space t) ≡ Read h taken r
            → Turns (a_region iso place) frames s t (Some (a_block true)) (frames ++ a_region iso place ∷ []) (does.heads h s) r
        block_begins h taken r e = goes_in (a_region iso place) (by_head ∙ ap then_blocks (tells_found (head_at types_at attr (after_space t)) (after_space t) s after_head h taken r e))

        pub no_block : (cause : Fault) (upto : Text) → demanded (head_at types_at attr (after_space t)) ≡ Bad cause upto
            → Stops (a_region iso place) frames s t s cause (length (after_space t) - length upto)
        no_block cause upto e = stuck_here (by_head ∙ ap then_blocks (tells_bad (head_at types_at attr (after_space t)) (after_space t) s after_head cause upto e))

      -- no block is left
      module _ (b : begins_block (after_space t) ≡ false) where
        abbrev after_end : Unit {0} → Text → Reached Unit S
        after_end x end = Advanced tt (does.leaves iso place s) end

        pub region_ends : (x : Unit {0}) (taken r : Text) (next : Option (Open T A)) (others : List (Open T A)) → word (codes "}") (after_space t) ≡ Read x taken r → Pops frames next others
            → Turns (a_region iso place) frames s t next others (does.leaves iso place s) r
        region_ends x taken r next others h p = goes_out next others p (by_blocks false b ∙ tells_found (word (codes "}") (after_space t)) (after_space t) s after_end x taken r h)

        pub no_brace : (cause : Fault) (upto : Text) → demanded (word (codes "}") (after_space t)) ≡ Bad cause upto
            → Stops (a_region iso place) frames s t s cause (length (after_space t) - length upto)
        no_brace cause upto h = stuck_here (by_blocks false b ∙ tells_bad (word (codes "}") (after_space t)) (after_space t) s after_end cause upto h)

    -- ---- a block goes on
    module _ (frames : List (Open T A)) (s : S) (t : Text) where
      abbrev after_semicolon : Text
      after_semicolon = after_space (without_first (after_space t))

      -- the rest of a block, given whether another operation follows
      abbrev by_more : Bool → Reached Unit S
      by_more b = cond b (came (item after_semicolon s) (λ _ z rest. left_of (a_block false) rest z)) (Advanced tt s (after_space t))

      by_semicolon : (b : Bool) → begins (the 59) (after_space t) ≡ b → left_of (a_block false) t s ≡ by_more b
      by_semicolon b h = k.more_are (length t) (after_space t) s (shorter t) ∙ ap by_more h

      pub another_operation : begins (the 59) (after_space t) ≡ true → Turns (a_block false) frames s t (Some (to_come true)) (frames ++ a_block false ∷ []) s after_semicolon
      another_operation b = goes_in (a_block false) (by_semicolon true b)

      pub no_more_operations : (next : Option (Open T A)) (others : List (Open T A)) → begins (the 59) (after_space t) ≡ false → Pops frames next others → Turns (a_block false) frames s t next others s (after_space t)
      no_more_operations next others b p = goes_out next others p (by_semicolon false b)
