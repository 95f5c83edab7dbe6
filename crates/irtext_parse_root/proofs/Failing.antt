-- No fault of a nested text says that the stream had failed, and one of which nothing was parsed has a cause of a text.
use Rattle.std.proofs.Common.{◌≡◌, ◌∙◌, ℕ, Bool, true, false, cond, List, [], ◌∷◌, ◌++◌, length, Some, None, codes, is_some, append_assoc, refl, sym, ap, subst, true≢false}
use Rattle.irtext_base.specs.Text.{Text, begins}
use Rattle.irtext_base.specs.Reading.{the}
use Rattle.irtext_base.specs.Format.{Id}
use Rattle.irtext_base.specs.Faults.{Fault, Failed, UnregisteredOp, UnregisteredDialect}
use Rattle.irtext_base.specs.Own.{Sincere, is_first_fault, is_text_fault}
use Rattle.irtext_base.specs.Answers.{Outcome, Read, Missing, Bad, mapped}
use Rattle.irtext_base.specs.Locations.{AttrView}
use Rattle.irtext_base.proofs.Sincere.{Of, of_read, of_mapped, of_sincere}
use Rattle.irtext_context.specs.Dialects.{Table}
use Rattle.irtext_context.specs.DialectTable.{dialect_of, registered}
use Rattle.irtext_tokens.specs.AttrTexts.{attr_at}
use Rattle.irtext_tokens.specs.Infix.{◌▷◌}
use Rattle.irtext_tokens.specs.Tokens.{word, identifier_at, id_at}
use Rattle.irtext_tokens.proofs.Honest.{Honest, ◌then◌, ◌so◌, seen, honest_either, honest_word, honest_space, honest_id, honest_index, honest_name, honest_separated, honest_spaced, honest_attr}
use Rattle.irtext_grammar.specs.Contexts.Formats.{op_id, isolated}
use Rattle.irtext_grammar.specs.Grammar.Tree as tree
use Rattle.irtext_grammar.specs.Grammar.Tree.{Name}
use Rattle.irtext_grammar.specs.Readers.Parts.{after_lead}
use Rattle.irtext_grammar.specs.Readers.Operations.{registered_after}
use Rattle.irtext_tokens.specs.Demanded.{index_at}
use Rattle.irtext_grammar.specs.Promises.Supported.{is_committed}
use Rattle.irtext_grammar.proofs.Readers.Honest.{honest_nothing}
use Rattle.irtext_grammar.specs.Promises.ErrorCauses.{IsTokenFault, is_name_fault, CauseAt, of_token, of_name, no_dialect, no_operation, of_type, of_attribute}
use Rattle.irtext_grammar.proofs.Causes.Found.{operation_cause, region_cause}
use Rattle.irtext_grammar.specs.Heads.{name_of, label_at, argument_at, mark_at, mark_if_at, head_at, lead_at, led_by, led_at}
use Rattle.irtext_grammar.specs.Reached.{Stopped, tells, Actions, body_by, region_at, operation_at}
use Rattle.irtext_parse_nested.proofs.FrontHonest.{name_honest, lead_honest, dictionary_honest}

-- ---- the parsers of heads
label_honest : Honest label_at
label_honest = record { of = λ text. of_mapped text (name_of (length text)) ((word (codes "^") ▷ identifier_at) text) ((◌then◌ (honest_word (codes "^")) (honest_name _)).of text) }

mark_honest : Honest mark_at
mark_honest = record { of = λ text. of_mapped text (λ i. record { place = length text; index = i }) (index_at text) (honest_index.of text) }

mark_if_honest : Honest mark_if_at
mark_if_honest = honest_either (begins (the 33)) (seen Some mark_honest) (honest_nothing None)

-- where nothing is led, for a cause of a text
registered_first : (dialects : List (Text × Table)) (lead text : Text) (o : Outcome Id) → Of text o → (cause : Fault) → registered_after dialects lead o ≡ Missing cause → is_first_fault cause ≡ true
registered_first dialects lead text (Read id taken rest) h cause e = go (is_some (dialect_of dialects id.dialect)) (is_some (registered dialects (op_id id))) e
  where
    go : (a b : Bool) → cond a (cond b (Read id taken rest) (Bad (UnregisteredOp id) [])) (Bad (UnregisteredDialect id.dialect) lead) ≡ Missing cause → is_first_fault cause ≡ true
    go true true e = absurd (cc)
    go true false e = absurd (cc)
    go false b e = absurd (cc)
registered_first dialects lead text (Missing c) h cause e = let same : c ≡ cause = cc e in subst (λ z. is_first_fault z ≡ true) same h.says
registered_first dialects lead text (Bad c u) h cause e = absurd (cc)

mapped_missing : {X Y : Type 0} (see : X → Y) (o : Outcome X) (cause : Fault) → mapped see o ≡ Missing cause → o ≡ Missing cause
mapped_missing see (Read x taken rest) cause e = absurd (cc)
mapped_missing see (Missing c) cause e = let same : c ≡ cause = cc e in ap Missing same
mapped_missing see (Bad c u) cause e = absurd (cc)

after_first : (dialects : List (Text × Table)) (lead rest : Text) (cause : Fault) → registered_after dialects lead (after_lead lead (id_at rest)) ≡ Missing cause → is_first_fault cause ≡ true
after_first dialects [] rest cause e = registered_first dialects [] rest (id_at rest) (honest_id.of rest) cause e
after_first dialects (c ∷ lead) rest cause e = go (id_at rest) e
  where
    go : (o : Outcome Id) → registered_after dialects (c ∷ lead) (after_lead (c ∷ lead) o) ≡ Missing cause → is_first_fault cause ≡ true
    go (Read id taken left) e = registered_first dialects (c ∷ lead) (c ∷ lead ++ (taken ++ left)) (Read id (c ∷ lead ++ taken) left) (of_read _ id (c ∷ lead ++ taken) left (append_assoc (c ∷ lead) taken left)) cause e
    go (Missing d) e = absurd (cc)
    go (Bad d u) e = absurd (cc)

pub led_first : (dialects : List (Text × Table)) (text : Text) (cause : Fault) → led_at dialects text ≡ Missing cause → is_first_fault cause ≡ true
led_first dialects text cause e = go (lead_at text) (lead_honest.of text) e
  where
    go : (o : Outcome (List (Name ℕ))) → Of text o → led_by dialects o ≡ Missing cause → is_first_fault cause ≡ true
    go (Read ns lead rest) h e = after_first dialects lead rest cause (mapped_missing (λ id. (ns, id)) (registered_after dialects lead (after_lead lead (id_at rest))) cause e)
    go (Missing c) h e = let same : c ≡ cause = cc e in subst (λ z. is_first_fault z ≡ true) same h.says
    go (Bad c u) h e = absurd (cc)

-- a cause of a text is not that the stream had failed
never_caused : {T A : Type 0} (dialects : List (Text × Table)) (types_at : Text → Outcome T) (owns_at : Text → Outcome A) (text : Text) (cause : Fault) (left : Text) → CauseAt dialects types_at owns_at text cause left → cause ≡ Failed → ⊥
never_caused dialects types_at owns_at text cause left (of_token t l) e = subst (λ c. IsTokenFault c left) e t
never_caused dialects types_at owns_at text cause left (of_name n l) e = true≢false (sym n ∙ ap is_name_fault e)
never_caused dialects types_at owns_at text cause left (no_dialect d l) e = cc (d.is, e)
never_caused dialects types_at owns_at text cause left (no_operation d l) e = cc (d.is, e)
never_caused dialects types_at owns_at text cause left (of_type r) e = true≢false (sym r.allowed ∙ ap is_text_fault e)
never_caused dialects types_at owns_at text cause left (of_attribute r) e = true≢false (sym r.allowed ∙ ap is_text_fault e)

module _ {T A : Type 0} (types_at : Text → Outcome T) (reading : Text → Outcome A) (sincere_types : Sincere types_at) (sincere : Sincere reading) where
  abbrev attr : Text → Outcome (AttrView A)
  attr = attr_at reading

  types_honest : Honest types_at
  types_honest = record { of = of_sincere types_at sincere_types }

  attr_honest : Honest attr
  attr_honest = honest_attr (record { of = of_sincere reading sincere })

  argument_honest : Honest (argument_at types_at attr)
  argument_honest = ◌so◌ name_honest (λ n. ◌then◌ (honest_spaced (codes ":")) (seen (λ t. (n, t)) types_honest))

  pub head_honest : Honest (head_at types_at attr)
  head_honest =
      ◌so◌ label_honest (λ label. ◌then◌ (honest_spaced (codes "(")) (◌so◌ (honest_separated 44 (argument_at types_at attr) argument_honest) (λ arguments. ◌then◌ (honest_word (codes ")")) (◌then◌ honest_space
      (◌so◌ (honest_either (begins (the 91)) (seen Some (dictionary_honest types_at attr types_honest attr_honest)) (honest_nothing None)) (λ attributes. ◌then◌ honest_space
      (◌so◌ mark_if_honest (λ mark. ◌then◌ honest_space (seen (λ _. record { label = label; arguments = arguments; attributes = attributes; mark = mark }) (honest_word (codes ":")))))))))))

  -- ---- the parsers of what nests
  module _ {S : Type 0} (dialects : List (Text × Table)) (does : Actions T A S) where
    -- a region's parser is not stuck at such a cause
    pub region_never_failed : (iso : Bool) (text : Text) (s t : S) (cause : Fault) (place : ℕ) → region_at dialects types_at attr does iso text s ≡ Stopped t cause place → cause ≡ Failed → ⊥
    region_never_failed iso text s t cause place e = never_caused dialects types_at reading text cause _ (region_cause dialects types_at reading sincere_types sincere does iso text s t cause place e).2

    -- nor is an operation's, inside of a region and outside of each
    pub operation_never_failed : (inside : Bool) (text : Text) (s t : S) (cause : Fault) (place : ℕ) → operation_at dialects types_at attr does inside text s ≡ Stopped t cause place → cause ≡ Failed → ⊥
    operation_never_failed inside text s t cause place e = never_caused dialects types_at reading text cause _ (operation_cause dialects types_at reading sincere_types sincere does inside text s t cause place e).2

    -- where no operation begins, it is stuck for a cause of a text
    pub operation_first : (inside : Bool) (text : Text) (s t : S) (cause : Fault) (place : ℕ) → operation_at dialects types_at attr does inside text s ≡ Stopped t cause place → is_committed (led_at dialects text) ≡ false → is_first_fault cause ≡ true
    operation_first inside text s t cause place e flag = go (led_at dialects text) refl flag e
      where
        go : (o : Outcome (List (Name ℕ) × Id)) → led_at dialects text ≡ o → is_committed o ≡ false
            → tells o text s (λ lead rest. body_by dialects types_at attr does (region_at dialects types_at attr does (isolated dialects lead.1)) inside (length text) lead.0 lead.1 rest s) ≡ Stopped t cause place → is_first_fault cause ≡ true
        go (Read lead taken rest) is flag e = absurd (cc)
        go (Missing c) is flag e = let same : c ≡ cause = cc e in subst (λ z. is_first_fault z ≡ true) same (led_first dialects text c is)
        go (Bad c u) is flag e = absurd (cc)
