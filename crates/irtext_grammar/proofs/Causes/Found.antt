-- The causes that an error of a text can have are those that its parsers return.
use Rattle.std.proofs.Common.{◌≡◌, ◌∙◌, ◌++◌, ℕ, Bool, List, [], refl, ap, subst, append_assoc}
use Rattle.irtext_base.specs.Text.{Text}
use Rattle.irtext_base.specs.Faults.{Fault}
use Rattle.irtext_base.specs.Answers.{Outcome, Read, Missing, Bad}
use Rattle.irtext_base.specs.Own.{Sincere}
use Rattle.irtext_base.proofs.Sincere.{Of, of_sincere, first_of_text}
use Rattle.irtext_context.specs.Dialects.{Table}
use Rattle.irtext_tokens.specs.AttrTexts.{attr_at}
use Rattle.irtext_tokens.specs.Infix.{Reader}
use Rattle.irtext_base.specs.Paths.{Written}
use Rattle.irtext_grammar.specs.Grammar.Section.{Entry}
use Rattle.irtext_grammar.specs.Names.Acts.{Rule}
use Rattle.irtext_grammar.specs.Promises.ErrorCauses.{IsLeft, missing, bad, ReturnsCauseIn, CauseAt, of_token, of_name, no_dialect, no_operation, of_type, of_attribute, CauseAtPlace}
use Rattle.irtext_grammar.specs.Heads.{led_at}
use Rattle.irtext_grammar.specs.Entries.{section_at}
use Rattle.irtext_grammar.specs.Promises.Supported.{RefusedAs}
use Rattle.irtext_grammar.specs.Reached.{Reached, Stopped, Actions, region_at, operation_at}
use Rattle.irtext_grammar.proofs.Causes.Outcomes.{Allowed, Obeys, AllObey, obeys_read, obeys_missing, obeys_bad}
use Rattle.irtext_grammar.proofs.Causes.Parts.{attr_obeys, led_obeys}
use Rattle.irtext_grammar.proofs.Causes.Section.{section_obeys}
use Rattle.irtext_grammar.proofs.Causes.Nested.{Ends, region_at_ends, operation_at_ends}

-- what is left of a text is left of a longer one
left_longer : (front text left : Text) → IsLeft text left → IsLeft (front ++ text) left
left_longer front text left h = (front ++ h.0, append_assoc front h.0 left ∙ ap (λ z. front ++ z) h.1)

returns_longer : {X : Type 0} (parser : Reader X) (front text : Text) (cause : Fault) (left : Text) → ReturnsCauseIn parser text cause left → ReturnsCauseIn parser (front ++ text) cause left
returns_longer parser front text cause left h = record { start = h.start; later = left_longer front text h.start h.later; returns = h.returns; allowed = h.allowed }

module _ {T A : Type 0} (dialects : List (Text × Table)) (types_at : Reader T) (owns_at : Reader A) where
  -- a cause of what is left of a text is one of the text
  pub cause_longer : (front text : Text) (cause : Fault) (left : Text) → CauseAt dialects types_at owns_at text cause left → CauseAt dialects types_at owns_at (front ++ text) cause left
  cause_longer front text cause left (of_token e l) = of_token e (left_longer front text left l)
  cause_longer front text cause left (of_name e l) = of_name e (left_longer front text left l)
  cause_longer front text cause left (no_dialect d l) = no_dialect d (left_longer front text left l)
  cause_longer front text cause left (no_operation d l) = no_operation d (left_longer front text left l)
  cause_longer front text cause left (of_type r) = of_type (returns_longer types_at front text cause left r)
  cause_longer front text cause left (of_attribute r) = of_attribute (returns_longer owns_at front text cause left r)

  -- the causes that are allowed
  abbrev K : Allowed
  K = record {
    At = λ text cause left. CauseAt dialects types_at owns_at text cause left;
    token = λ text cause upto left e l. of_token e (upto, l);
    name = λ text cause upto left e l. of_name e (upto, l);
    longer = cause_longer;
  }

  module _ {X : Type 0} (parser : Reader X) (gives : (text : Text) (cause : Fault) (left : Text) → ReturnsCauseIn parser text cause left → CauseAt dialects types_at owns_at text cause left) where
    parser_obeys : (text : Text) (o : Outcome X) → parser text ≡ o → Of text o → Obeys K text o
    parser_obeys text (Read x taken left) e h = obeys_read text x taken left h.says
    parser_obeys text (Missing cause) e h = obeys_missing text cause (gives text cause text (record { start = text; later = ([], refl); returns = missing e refl; allowed = first_of_text cause h.says }))
    parser_obeys text (Bad cause upto) e h = obeys_bad text cause upto h.says.1.0 h.says.1.1
        (gives text cause h.says.1.0 (record { start = text; later = ([], refl); returns = bad upto e h.says.1.1; allowed = h.says.0 }))

  module _ (sincere_types : Sincere types_at) (sincere : Sincere owns_at) where
    types_obey : AllObey K types_at
    types_obey = record { at = λ text. parser_obeys types_at (λ text cause left r. of_type r) text (types_at text) refl (of_sincere types_at sincere_types text) }

    owns_obey : AllObey K owns_at
    owns_obey = record { at = λ text. parser_obeys owns_at (λ text cause left r. of_attribute r) text (owns_at text) refl (of_sincere owns_at sincere text) }

    leads_obey : AllObey K (led_at dialects)
    leads_obey = led_obeys K dialects (λ text cause left d l. no_dialect d l) (λ text cause left d l. no_operation d l)

    -- a parse that is stuck has such a cause
    stuck : {X S : Type 0} (text : Text) (o : Reached X S) (s : S) (cause : Fault) (place : ℕ) → o ≡ Stopped s cause place → Ends K text o → CauseAtPlace dialects types_at owns_at text cause place
    stuck text o s cause place e h = (subst (Ends K text) e h).says

    module _ {S : Type 0} (does : Actions T A S) where
      -- the cause of an operation's text
      pub operation_cause : (inside : Bool) (text : Text) (s t : S) (cause : Fault) (place : ℕ) → operation_at dialects types_at (attr_at owns_at) does inside text s ≡ Stopped t cause place
          → CauseAtPlace dialects types_at owns_at text cause place
      operation_cause inside text s t cause place e =
          stuck text _ t cause place e (operation_at_ends dialects types_at (attr_at owns_at) does types_obey (attr_obeys owns_obey) leads_obey inside text s)

      -- the cause of a region's text
      pub region_cause : (iso : Bool) (text : Text) (s t : S) (cause : Fault) (place : ℕ) → region_at dialects types_at (attr_at owns_at) does iso text s ≡ Stopped t cause place
          → CauseAtPlace dialects types_at owns_at text cause place
      region_cause iso text s t cause place e =
          stuck text _ t cause place e (region_at_ends dialects types_at (attr_at owns_at) does types_obey (attr_obeys owns_obey) leads_obey iso text s)

    -- the cause of an outcome that is an error
    of_outcome : {X : Type 0} (text : Text) (o : Outcome X) (cause : Fault) (upto : Text) → Obeys K text o → RefusedAs o cause upto → (left : Text) × (upto ++ left ≡ text) × CauseAt dialects types_at owns_at text cause left
    of_outcome text (Read x taken rest) cause upto h r = absurd r
    of_outcome text (Missing c) cause upto h r = (text, ap (λ z. z ++ text) r.1, subst (λ c. CauseAt dialects types_at owns_at text c text) r.0 h.says)
    of_outcome text (Bad c u) cause upto h r = (h.says.0, subst (λ u. u ++ h.says.0 ≡ text) r.1 h.says.1, subst (λ c. CauseAt dialects types_at owns_at text c h.says.0) r.0 h.says.2)

    module _ (marks : List ℕ) (rules : ℕ → Rule A) where
      -- what the parser of the section takes is a front of the text
      pub section_takes : (text : Text) (x : List (Entry ℕ A (Written A))) (taken rest : Text) → section_at (attr_at owns_at) marks rules text ≡ Read x taken rest → taken ++ rest ≡ text
      section_takes text x taken rest e = (subst (Obeys K text) e ((section_obeys (attr_obeys owns_obey) marks rules).at text)).says

      -- the cause of a section's text
      pub section_cause : (text : Text) (cause : Fault) (upto : Text) → RefusedAs (section_at (attr_at owns_at) marks rules text) cause upto
          → (left : Text) × (upto ++ left ≡ text) × CauseAt dialects types_at owns_at text cause left
      section_cause text cause upto r = of_outcome text _ cause upto ((section_obeys (attr_obeys owns_obey) marks rules).at text) r
