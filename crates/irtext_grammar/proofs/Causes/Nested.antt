-- The causes at which a parse of nested text is stuck, and their places.
use Rattle.std.proofs.Common.{◌≡◌, ◌∙◌, ◌-◌, ℕ, zero, suc, ◌≤◌, ◌<◌, Bool, true, false, cond, List, [], ◌∷◌, ◌++◌, codes, length, length-append, refl, ap, subst, append_assoc, le_refl, arith}
use Rattle.std.specs.Char.{is_whitespace}
use Rattle.irtext_base.specs.Text.{Text, front, after_space}
use Rattle.irtext_base.specs.Format.{Id}
use Rattle.irtext_base.specs.Faults.{Fault}
use Rattle.irtext_base.specs.Answers.{Outcome, Read, Missing, Bad}
use Rattle.irtext_base.specs.Locations.{AttrView}
use Rattle.irtext_base.proofs.Along.{front_after}
use Rattle.irtext_context.specs.Dialects.{Table}
use Rattle.irtext_tokens.specs.Infix.{Reader, ◌▷◌}
use Rattle.irtext_tokens.specs.Tokens.{space_at}
use Rattle.irtext_grammar.specs.Contexts.Formats.{isolated}
use Rattle.irtext_grammar.specs.Grammar.Tree as tree
use Rattle.irtext_grammar.specs.Grammar.Tree.{Name, Part}
use Rattle.irtext_grammar.specs.Readers.Parts.{without_first}
use Rattle.irtext_grammar.specs.Readers.RestLengths.{Leaves}
use Rattle.irtext_grammar.specs.declared.parsed.Setting.{Setting}
use Rattle.irtext_grammar.specs.Heads.{Step, flat, types, one, all, front_steps, region_steps, piece_at, led_at, setting}
use Rattle.irtext_grammar.specs.Reached.{Reached, Advanced, Stopped, came, tells, Actions, Reads, begins_operation, steps_in, regions_by, more_by, operations_by, blocks_by, front_by, steps_by, end_by, body_by, operation_by, block_by, region_by, region_within, region_at, operation_at}
use Rattle.irtext_grammar.proofs.Knot.Alike.{IsLoop}
use Rattle.irtext_grammar.proofs.Knot.Bound.{regions_loop, more_loop, blocks_loop}
use Rattle.irtext_grammar.proofs.Knot.Leaving.{brace_leaves}
use Rattle.irtext_grammar.proofs.Causes.Outcomes.{Allowed, Obeys, AllObey, ◌then◌}
use Rattle.irtext_grammar.proofs.Causes.Tokens.{obeying_word, obeying_space}
use Rattle.irtext_grammar.proofs.Causes.Parts.{mark_if_obeys, piece_obeys, head_obeys}

-- what is left is an end of the text; a parse that is stuck has an allowed cause at its place
abbrev pub EndsOf : {X S : Type 0} → Allowed → Text → Reached X S → Type 0
EndsOf K text (Advanced x s rest) = (taken : Text) × (taken ++ rest ≡ text)
EndsOf K text (Stopped s cause place) = (left : Text) × (place ≡ length left) × K.At text cause left

-- the same, as a record
pub record Ends {X S : Type 0} (K : Allowed) (text : Text) (o : Reached X S) : Type 0 where
  pub says : EndsOf K text o

module _ {K : Allowed} {X S : Type 0} where
  ends_came : (text : Text) (x : X) (s : S) (taken rest : Text) → taken ++ rest ≡ text → Ends K text (Advanced x s rest)
  ends_came text x s taken rest e = record { says = (taken, e) }

  ends_stuck : (text : Text) (s : S) (cause : Fault) (place : ℕ) (left : Text) → place ≡ length left → K.At text cause left → Ends {X = X} K text (Stopped s cause place)
  ends_stuck text s cause place left e a = record { says = (left, e, a) }

  ends_either : (text : Text) (test : Bool) (o p : Reached X S) → Ends K text o → Ends K text p → Ends K text (cond test o p)
  ends_either text true o p h k = h
  ends_either text false o p h k = k

  -- a parse of what is left of a text
  ends_later : (front rest : Text) (o : Reached X S) → Ends K rest o → Ends K (front ++ rest) o
  ends_later front rest (Advanced x s left) h = ends_came (front ++ rest) x s (front ++ h.says.0) left (append_assoc front h.says.0 left ∙ ap (λ z. front ++ z) h.says.1)
  ends_later front rest (Stopped s cause place) h = ends_stuck (front ++ rest) s cause place h.says.0 h.says.1 (K.longer front rest cause h.says.0 h.says.2)

  ends_after : (front rest text : Text) (o : Reached X S) → front ++ rest ≡ text → Ends K rest o → Ends K text o
  ends_after front rest text o e h = subst (λ z. Ends K z o) e (ends_later front rest o h)

  -- a parse after white space
  ends_spaced : (text : Text) (o : Reached X S) → Ends K (after_space text) o → Ends K text o
  ends_spaced text o h = ends_after (front is_whitespace text) (after_space text) text o (front_after is_whitespace text) h

-- what is left is no longer
shorter : (front rest text : Text) → front ++ rest ≡ text → length rest ≤ length text
shorter front rest text e = omega (arith, ap length e, length-append front rest)

space_shorter : (text : Text) → length (after_space text) ≤ length text
space_shorter text = shorter (front is_whitespace text) (after_space text) text (front_after is_whitespace text)

-- the place of what is left after a front
place_left : (upto left text : Text) → upto ++ left ≡ text → length text - length upto ≡ length left
place_left upto left text e = omega (arith, ap length e, length-append upto left)

module _ {K : Allowed} {X Y S : Type 0} where
  -- what follows a parse
  ends_next : (text : Text) (o : Reached X S) (next : X → S → Text → Reached Y S) → Ends K text o
      → ((x : X) (s : S) (rest : Text) → length rest ≤ length text → Ends K rest (next x s rest)) → Ends K text (came o next)
  ends_next text (Advanced x s rest) next h k = ends_after h.says.0 rest text (next x s rest) h.says.1 (k x s rest (shorter h.says.0 rest text h.says.1))
  ends_next text (Stopped s cause place) next h k = ends_stuck text s cause place h.says.0 h.says.1 h.says.2

  -- what follows something that is required, given what it leaves
  ends_told : (c : ℕ) (text : Text) (o : Outcome X) (s : S) (next : X → Text → Reached Y S) → Obeys K text o → Leaves c o
      → ((x : X) (rest : Text) → length rest ≤ c → Ends K rest (next x rest)) → Ends K text (tells o text s next)
  ends_told c text (Read x taken rest) s next h l k = ends_after taken rest text (next x rest) h.says (k x rest (l.by x taken rest refl))
  ends_told c text (Missing cause) s next h l k = ends_stuck text s cause (length text) text refl h.says
  ends_told c text (Bad cause upto) s next h l k = ends_stuck text s cause (length text - length upto) h.says.0 (place_left upto h.says.0 text h.says.1) h.says.2

  -- what follows something that is required
  ends_tells : (text : Text) (o : Outcome X) (s : S) (next : X → Text → Reached Y S) → Obeys K text o
      → ((x : X) (rest : Text) → length rest ≤ length text → Ends K rest (next x rest)) → Ends K text (tells o text s next)
  ends_tells text (Read x taken rest) s next h k = ends_after taken rest text (next x rest) h.says (k x rest (shorter taken rest text h.says))
  ends_tells text (Missing cause) s next h k = ends_stuck text s cause (length text) text refl h.says
  ends_tells text (Bad cause upto) s next h k = ends_stuck text s cause (length text - length upto) h.says.0 (place_left upto h.says.0 text h.says.1) h.says.2

-- ---- parsers
-- each parse of a text no longer than the bound
pub record AllEnd {S : Type 0} (K : Allowed) (b : ℕ) (f : Reads S) : Type 0 where
  pub at : (text : Text) (s : S) → length text ≤ b → Ends K text (f text s)

module _ {K : Allowed} {S : Type 0} (b : ℕ) where
  -- items as long as the text passes a test
  loop_ends : {test : Text → Bool} {item : Reads S} {loop : ℕ → Reads S} → IsLoop test item loop → AllEnd K b item → (n : ℕ) → AllEnd K b (loop n)
  loop_ends i h zero = record { at = λ text s k. rw (i.none text s) (ends_came text tt s [] text refl) }
  loop_ends {test} {item} {loop} i h (suc n) = record {
    at = λ text s k. rw (i.more n text s) (ends_either text (test text) _ _
        (ends_next text (item text s) (λ _ t rest. loop n (after_space rest) t) (h.at text s k) (λ _ t rest e.
        ends_spaced rest (loop n (after_space rest) t) ((loop_ends i h n).at (after_space rest) t (let j = space_shorter rest in omega (arith, e, j, k)))))
        (ends_came text tt s [] text refl));
  }

  -- what follows a `;`
  semicolon_ends : (item : Reads S) → AllEnd K b item → AllEnd K b (λ text s. item (after_space (without_first text)) s)
  semicolon_ends item h = record { at = go }
    where
      go : (text : Text) (s : S) → length text ≤ b → Ends K text (item (after_space (without_first text)) s)
      go [] s k = h.at [] s k
      go (c ∷ text) s k = ends_after (c ∷ []) text (c ∷ text) _ refl (ends_spaced text _ (h.at (after_space text) s (let j = space_shorter text in omega (arith, j, k))))

  operations_end : (item : Reads S) → AllEnd K b item → AllEnd K b (operations_by item)
  operations_end item h = record {
    at = λ text s k. ends_either text (begins_operation text) _ _
        (ends_next text (item text s) (λ _ t rest. more_by item (length rest) (after_space rest) t) (h.at text s k) (λ _ t rest e.
        ends_spaced rest _ ((loop_ends (more_loop item) (semicolon_ends item h) (length rest)).at (after_space rest) t (let j = space_shorter rest in omega (arith, e, j, k)))))
        (ends_came text tt s [] text refl);
  }

module _ {K : Allowed} {T A S : Type 0} (dialects : List (Text × Table)) (types_at : Reader T) (attr : Reader (AttrView A)) (does : Actions T A S)
    (of_types : AllObey K types_at) (of_attr : AllObey K attr) (of_led : AllObey K (led_at dialects)) where
  spaced_piece : (at : Setting) (step : Step) → AllObey K (space_at ▷ piece_at types_at attr at step)
  spaced_piece at step = ◌then◌ obeying_space (piece_obeys of_types of_attr at step)

  front_ends : (at : Setting) (ss : List Step) (found : List (Part ℕ T A)) (text : Text) (s : S) → Ends K text (front_by dialects types_at attr does at ss found text s)
  front_ends at [] found text s = ends_came text found s [] text refl
  front_ends at (step ∷ ss) found text s = ends_tells text _ s _ ((spaced_piece at step).at text)
      (λ p rest e. front_ends at ss (found ++ tree.piece p ∷ []) rest s)

  end_ends : (place : ℕ) (names : List (Name ℕ)) (id : Id) (parts : List (Part ℕ T A)) (text : Text) (s : S) → Ends K text (end_by dialects types_at attr does place names id parts text s)
  end_ends place names id parts text s = ends_tells text _ _ _ ((◌then◌ obeying_space mark_if_obeys).at text) (λ m rest e. ends_came rest tt _ [] rest refl)

  -- ---- given the parsers of regions
  module _ (b : ℕ) (inner : Bool → Reads S) (inner_ends : (iso : Bool) → AllEnd K b (inner iso)) where
    steps_end : (iso : Bool) (place : ℕ) (id : Id) (ss : List Step) (found : List (Part ℕ T A)) (text : Text) (s : S) → length text ≤ b
        → Ends K text (steps_by dialects types_at attr does (inner iso) place id ss found text s)
    steps_end iso place id [] found text s k = ends_came text found s [] text refl
    steps_end iso place id (one i ∷ ss) found text s k =
        ends_next text (inner iso (after_space text) s) _ (ends_spaced text _ ((inner_ends iso).at (after_space text) s (let j = space_shorter text in omega (arith, j, k))))
        (λ _ t rest e. steps_end iso place id ss (found ++ tree.region i ∷ []) rest t (omega (arith, e, k)))
    steps_end iso place id (all ∷ ss) found text s k =
        ends_next text (regions_by (inner iso) (length text) (after_space text) s) _
        (ends_spaced text _ ((loop_ends b (regions_loop (inner iso)) (inner_ends iso) (length text)).at (after_space text) s (let j = space_shorter text in omega (arith, j, k))))
        (λ _ t rest e. steps_end iso place id ss (found ++ tree.regions ∷ []) rest t (omega (arith, e, k)))
    steps_end iso place id (flat d ∷ ss) found text s k = ends_tells text _ s _ ((spaced_piece (setting true does.any_key) (flat d)).at text)
        (λ p rest e. steps_end iso place id ss (found ++ tree.piece p ∷ []) rest (does.late place id p s) (omega (arith, e, k)))
    steps_end iso place id (types ∷ ss) found text s k = ends_tells text _ s _ ((spaced_piece (setting true does.any_key) types).at text)
        (λ p rest e. steps_end iso place id ss (found ++ tree.piece p ∷ []) rest (does.late place id p s) (omega (arith, e, k)))

    body_ends : (iso inside : Bool) (place : ℕ) (names : List (Name ℕ)) (id : Id) (text : Text) (s : S) → length text ≤ b
        → Ends K text (body_by dialects types_at attr does (inner iso) inside place names id text s)
    body_ends iso inside place names id text s k =
        ends_next text _ _ (front_ends (setting inside does.any_key) (front_steps (steps_in dialects id)) [] text s) (λ found t rest e.
        ends_next rest _ _ (steps_end iso place id (region_steps (steps_in dialects id)) found rest (does.uses place id found t) (omega (arith, e, k))) (λ parts u left f.
        end_ends place names id parts left u))

    operation_ends : (inside : Bool) → AllEnd K b (operation_by dialects types_at attr does inner inside)
    operation_ends inside = record {
      at = λ text s k. ends_tells text _ s _ (of_led.at text)
          (λ lead rest e. body_ends (isolated dialects lead.1) inside (length text) lead.0 lead.1 rest s (omega (arith, e, k)));
    }

    block_ends : AllEnd K b (block_by dialects types_at attr does (operations_by (operation_by dialects types_at attr does inner true)))
    block_ends = record {
      at = λ text s k. ends_tells text _ s _ ((head_obeys of_types of_attr).at text)
          (λ h rest e. ends_spaced rest _ ((operations_end b _ (operation_ends true)).at (after_space rest) (does.heads h s) (let j = space_shorter rest in omega (arith, e, j, k))));
    }

    -- a region, one character longer
    region_ends : (iso : Bool) (text : Text) (s : S) → length text ≤ suc b
        → Ends K text (region_by dialects types_at attr does (λ rest t. blocks_by (block_by dialects types_at attr does (operations_by (operation_by dialects types_at attr does inner true))) (length rest) rest t) iso text s)
    region_ends iso text s k = ends_told b text _ _ _ ((◌then◌ (obeying_word (codes "{")) obeying_space).at text) (brace_leaves b text k)
        (λ _ rest e. ends_next rest _ _ ((loop_ends b (blocks_loop _) block_ends (length rest)).at rest _ e)
        (λ _ u left f. ends_tells left _ u _ ((obeying_word (codes "}")).at left) (λ _ end g. ends_came end tt _ [] end refl)))

  -- the levels are enough, so that no parse is stuck for want of one
  within_ends : (n b : ℕ) → b < n → (iso : Bool) → AllEnd K b (region_within dialects types_at attr does n iso)
  within_ends zero b h iso = absurd (omega (arith, h))
  within_ends (suc n) zero h iso = record { at = at_end }
    where
      at_end : (text : Text) (s : S) → length text ≤ zero → Ends K text (region_within dialects types_at attr does (suc n) iso text s)
      at_end [] s i = ends_stuck [] _ _ _ [] refl (K.token [] _ [] [] refl refl)
      at_end (c ∷ text) s i = absurd (omega (arith, i))
  within_ends (suc n) (suc b) h iso = record {
    at = λ text s k. region_ends b (region_within dialects types_at attr does n) (λ iso. within_ends n b (omega (arith, h)) iso) iso text s k;
  }

  -- a region
  pub region_at_ends : (iso : Bool) (text : Text) (s : S) → Ends K text (region_at dialects types_at attr does iso text s)
  region_at_ends iso text s = (within_ends (suc (length text)) (length text) (omega arith) iso).at text s (le_refl (length text))

  at_ends : (b : ℕ) (iso : Bool) → AllEnd K b (region_at dialects types_at attr does iso)
  at_ends b iso = record { at = λ text s k. region_at_ends iso text s }

  -- an operation
  pub operation_at_ends : (inside : Bool) (text : Text) (s : S) → Ends K text (operation_at dialects types_at attr does inside text s)
  operation_at_ends inside text s = (operation_ends (length text) (region_at dialects types_at attr does) (λ iso. at_ends (length text) iso) inside).at text s (le_refl (length text))
