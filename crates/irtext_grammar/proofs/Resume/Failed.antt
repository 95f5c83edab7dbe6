-- What no item changes stays unchanged through the rest of the text and all open frames: so a machine that has failed stays failed.
use Rattle.std.proofs.Common.{◌≡◌, Bool, true, false, List, [], ◌∷◌, Option, Some, None, length, codes, refl, sym, subst}
use Rattle.irtext_base.specs.Text.{Text, after_space}
use Rattle.irtext_base.specs.Answers.{Outcome}
use Rattle.irtext_base.specs.Locations.{AttrView}
use Rattle.irtext_context.specs.Dialects.{Table}
use Rattle.irtext_tokens.specs.Tokens.{word}
use Rattle.irtext_grammar.specs.Contexts.Formats.{isolated}
use Rattle.irtext_grammar.specs.Reached.{Reached, Advanced, Stopped, tells, Actions, Reads, operations_by, blocks_by, steps_by, end_by, region_at, operation_at}
use Rattle.irtext_grammar.specs.Resume.{OpenOperation, Open, to_come, an_operation, a_region, a_block, EndsIn, block_at, rest_of, resume, whole, Goes}
use Rattle.irtext_grammar.proofs.Naming.Keeps.{Keeps}
use Rattle.irtext_grammar.proofs.Naming.KeepsReading.{done_in, Quiet, quiet_came, quiet_tells, quiet_more, quiet_operations, quiet_blocks, quiet_steps, quiet_end, quiet_block, quiet_region_at, quiet_operation_at}

ends_in : {X S : Type 0} (s : S) (o : Reached X S) → done_in o ≡ s → EndsIn s o
ends_in s (Advanced x t rest) e = e
ends_in s (Stopped t cause place) e = e

module _ {T A S : Type 0} (dialects : List (Text × Table)) (types_at : Text → Outcome T) (attr : Text → Outcome (AttrView A)) (does : Actions T A S) where
  module _ (s : S) (keeps : Keeps does s) where
    abbrev item : Reads S
    item = operation_at dialects types_at attr does true

    quiet_item : Quiet s item
    quiet_item = quiet_operation_at dialects types_at attr does s keeps true

    quiet_operation_rest : (o : OpenOperation T A) (text : Text) → done_in (rest_of dialects types_at attr does (an_operation o) text s) ≡ s
    quiet_operation_rest o text =
        quiet_came s (steps_by dialects types_at attr does (region_at dialects types_at attr does (isolated dialects o.id)) o.place o.id o.steps o.parts text s)
        (λ parts u left. end_by dialects types_at attr does o.place o.names o.id parts left u)
        (quiet_steps dialects types_at attr does s keeps (region_at dialects types_at attr does (isolated dialects o.id)) (quiet_region_at dialects types_at attr does s keeps (isolated dialects o.id)) o.place o.id o.steps o.parts text)
        (λ parts left. quiet_end dialects types_at attr does s keeps o.place o.names o.id parts left)

    quiet_region_rest : (iso : Bool) (place : _) (text : Text) → done_in (rest_of dialects types_at attr does (a_region iso place) text s) ≡ s
    quiet_region_rest iso place text =
        let operations : Quiet s (operations_by item) = record { at = quiet_operations s item quiet_item } in
        quiet_came s (blocks_by (block_at dialects types_at attr does) (length text) (after_space text) s)
        (λ _ u left. tells (word (codes "}") left) left u (λ _ end. Advanced tt (does.leaves iso place u) end))
        (quiet_blocks s (block_at dialects types_at attr does) (quiet_block dialects types_at attr does s keeps (operations_by item) operations) (length text) (after_space text))
        (λ _ left. quiet_tells s (word (codes "}") left) left (λ _ end. Advanced tt (does.leaves iso place s) end) (λ _ end. keeps.leaves iso place))

    quiet_rest : (f : Open T A) → Quiet s (rest_of dialects types_at attr does f)
    quiet_rest (to_come inside) = quiet_operation_at dialects types_at attr does s keeps inside
    quiet_rest (an_operation o) = record { at = quiet_operation_rest o }
    quiet_rest (a_region iso place) = record { at = quiet_region_rest iso place }
    quiet_rest (a_block true) = record { at = λ text. quiet_operations s item quiet_item (after_space text) }
    quiet_rest (a_block false) = record { at = λ text. quiet_more s item quiet_item (length text) (after_space text) }

    quiet_resume : (frames : List (Open T A)) (o : Reached Unit S) → done_in o ≡ s → done_in (resume dialects types_at attr does frames o) ≡ s
    quiet_resume [] o e = e
    quiet_resume (f ∷ frames) o e = quiet_came s (resume dialects types_at attr does frames o) (λ _ t text. rest_of dialects types_at attr does f text t) (quiet_resume frames o e) (λ _ rest. (quiet_rest f).at rest)

    pub failed_rest : (next : Option (Open T A)) (frames : List (Open T A)) (text : Text) → EndsIn s (whole dialects types_at attr does next frames s text)
    failed_rest None frames text = refl
    failed_rest (Some f) frames text = ends_in s (resume dialects types_at attr does frames (rest_of dialects types_at attr does f text s)) (quiet_resume frames (rest_of dialects types_at attr does f text s) ((quiet_rest f).at text))

-- ---- the turn at which an item failed
module _ {T A S : Type 0} {dialects : List (Text × Table)} {types_at : Text → Outcome T} {attr : Text → Outcome (AttrView A)} {does : Actions T A S} {n n' : Option (Open T A)} {fr fr' : List (Open T A)} {t t' : Text} {z : S} (keeps : Keeps does z) where
  pub failed_at : {s : S} → Goes dialects types_at attr does n fr s t n' fr' z t' → EndsIn z (whole dialects types_at attr does n fr s t)
  failed_at g = subst (EndsIn z) (sym g.so) (failed_rest dialects types_at attr does z keeps n' fr' t')
