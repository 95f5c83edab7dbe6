-- The causes that the parsers of an operation's own parts and of a block's header return, and their places.
use Rattle.std.proofs.Common.{◌≡◌, ◌∙◌, ℕ, Bool, true, false, cond, List, [], ◌∷◌, ◌++◌, Some, None, codes, is_some, refl, ap, subst, append_assoc}
use Rattle.irtext_base.specs.Text.{Text, begins}
use Rattle.irtext_base.specs.Reading.{the}
use Rattle.irtext_base.specs.Format as format
use Rattle.irtext_base.specs.Format.{Directive, Id}
use Rattle.irtext_base.specs.Faults.{Fault, Unexpected, AnOperation, UnregisteredOp, UnregisteredDialect}
use Rattle.irtext_base.specs.Stream.{first_of}
use Rattle.irtext_base.specs.Answers.{Outcome, Read, Missing, Bad}
use Rattle.irtext_base.specs.Locations.{AttrView, given_names, ident, own}
use Rattle.irtext_context.specs.Dialects.{Table}
use Rattle.irtext_context.specs.DialectTable.{dialect_of, registered}
use Rattle.irtext_tokens.specs.AttrTexts.{leads, given_name_at, given_names_at, ident_at, attr_at}
use Rattle.irtext_tokens.specs.Infix.{Reader}
use Rattle.irtext_tokens.specs.Tokens.{id_at}
use Rattle.irtext_grammar.specs.Contexts.Formats.{op_id}
use Rattle.irtext_grammar.specs.Grammar.Tree.{Name, Attribute}
use Rattle.irtext_grammar.specs.Names.Acts.{may_hold}
use Rattle.irtext_grammar.specs.Promises.ErrorCauses.{IsLeft, NoDialect, NoOperation}
use Rattle.irtext_grammar.specs.Readers.Directives.{attribute_at}
use Rattle.irtext_grammar.specs.Readers.Marker.{marker, starts_with}
use Rattle.irtext_grammar.specs.Readers.Operations.{registered_after}
use Rattle.irtext_grammar.specs.Readers.Parts.{after_lead}
use Rattle.irtext_grammar.specs.declared.parsed.Setting.{Setting}
use Rattle.irtext_grammar.specs.Heads.{name_at, label_at, symbol_at, mark_at, mark_if_at, outside, used_at, target_at, allowed, pair_at, entry_by, dictionary_by, outlined_or_at, Step, flat, types, one, all, directive_at, piece_at, argument_at, dictionary_if_at, head_at, results_at, named, lead_at, led_by, led_at}
use Rattle.irtext_grammar.proofs.Causes.Outcomes.{Allowed, Obeys, AllObey, obeys_read, obeys_missing, obeys_bad, obeys_either, obeys_mapped, ◌then◌, ◌kept◌, ◌so◌, seen, obeying_either, obeying_nothing, misses}
use Rattle.irtext_grammar.proofs.Causes.Tokens.{obeying_word, obeying_space, obeying_name, obeying_id, obeying_spaced, obeying_index, obeying_separated}

-- ---- names and marks
module _ {K : Allowed} where
  pub name_obeys : AllObey K name_at
  name_obeys = record { at = λ text. obeys_mapped text _ _ ((obeying_name _).at text) }

  label_obeys : AllObey K label_at
  label_obeys = record { at = λ text. obeys_mapped text _ _ ((◌then◌ (obeying_word (codes "^")) (obeying_name _)).at text) }

  symbol_obeys : AllObey K symbol_at
  symbol_obeys = record { at = λ text. obeys_mapped text _ _ ((◌then◌ (obeying_word (codes "@")) (obeying_name _)).at text) }

  pub mark_obeys : AllObey K mark_at
  mark_obeys = record { at = λ text. obeys_mapped text _ _ (obeying_index.at text) }

  -- a mark, if there is one
  pub mark_if_obeys : AllObey K mark_if_at
  mark_if_obeys = obeying_either (begins (the 33)) (seen Some mark_obeys) (obeying_nothing None)

  outside_obeys : (text : Text) (o : Outcome (Name ℕ)) → Obeys K text o → Obeys K text (outside o)
  outside_obeys text (Read n taken rest) h = obeys_bad text _ [] text refl (K.name text _ [] text refl refl)
  outside_obeys text (Missing cause) h = obeys_missing text cause h.says
  outside_obeys text (Bad cause upto) h = obeys_bad text cause upto h.says.0 h.says.1 h.says.2

  used_obeys : (inside : Bool) → AllObey K (used_at inside)
  used_obeys true = record { at = λ text. name_obeys.at text }
  used_obeys false = record { at = λ text. outside_obeys text (name_at text) (name_obeys.at text) }

  target_obeys : (inside : Bool) → AllObey K (target_at inside)
  target_obeys inside = ◌then◌ (obeying_word (codes "^")) (used_obeys inside)

-- ---- attributes
module _ {K : Allowed} where
  given_name_obeys : AllObey K given_name_at
  given_name_obeys = obeying_either (begins (the 63)) (seen _ (obeying_word (codes "?"))) (seen Some (obeying_name _))

  given_names_obey : AllObey K given_names_at
  unfolding given_names_at
  given_names_obey = ◌then◌ (obeying_word (codes "builtin.given_names")) (◌then◌ obeying_space (◌then◌ (obeying_word (codes "["))
      (◌then◌ obeying_space (◌kept◌ (obeying_separated 44 given_name_at given_name_obeys) (obeying_word (codes "]"))))))

  ident_obeys : AllObey K ident_at
  unfolding ident_at
  ident_obeys = ◌then◌ (obeying_word (codes "builtin.identifier")) (◌then◌ obeying_space (obeying_name _))

module _ {K : Allowed} {A : Type 0} where
  -- an attribute, where the caller's attributes obey
  pub attr_obeys : {reading : Reader A} → AllObey K reading → AllObey K (attr_at reading)
  unfolding attr_at
  attr_obeys h = obeying_either (leads (codes "builtin.given_names")) (seen given_names given_names_obey) (obeying_either (leads (codes "builtin.identifier")) (seen ident ident_obeys) (seen own h))

  module _ {attr : Reader (AttrView A)} (h : AllObey K attr) where
    pub attribute_obeys : AllObey K (attribute_at attr)
    attribute_obeys = seen _ h

    pair_obeys : AllObey K (pair_at attr)
    pair_obeys = ◌so◌ name_obeys (λ key. ◌then◌ (obeying_spaced (codes ":")) (seen _ attribute_obeys))

    allowed_obeys : (text : Text) (o : Outcome (Name ℕ × Attribute A)) → Obeys K text o → Obeys K text (allowed o)
    allowed_obeys text (Read e taken rest) k = obeys_either text (may_hold e.0.text e.1) _ _ k (obeys_bad text _ [] text refl (K.name text _ [] text refl refl))
    allowed_obeys text (Missing cause) k = k
    allowed_obeys text (Bad cause upto) k = k

    entry_obeys : (any_key : Bool) → AllObey K (entry_by attr any_key)
    entry_obeys true = record { at = λ text. pair_obeys.at text }
    entry_obeys false = record { at = λ text. allowed_obeys text (pair_at attr text) (pair_obeys.at text) }

    dictionary_obeys : (any_key : Bool) → AllObey K (dictionary_by attr any_key)
    unfolding dictionary_by
    dictionary_obeys any_key = ◌then◌ (obeying_word (codes "[")) (◌then◌ obeying_space
        (◌kept◌ (obeying_separated 44 (entry_by attr any_key) (entry_obeys any_key)) (obeying_word (codes "]"))))

    outlined_obeys : AllObey K (outlined_or_at attr)
    outlined_obeys = obeying_either (starts_with marker) (seen (λ _. None) (obeying_word marker)) (seen Some attribute_obeys)

-- ---- pieces and headers
module _ {K : Allowed} {T A : Type 0} {types_at : Reader T} {attr : Reader (AttrView A)} (k : AllObey K types_at) (h : AllObey K attr) where
  no_piece : {X : Type 0} → AllObey {X = X} K (λ text. Missing (Unexpected (first_of text) AnOperation))
  no_piece = record { at = λ text. misses text _ refl }

  directive_obeys : (at : Setting) (d : Directive) → AllObey K (directive_at types_at attr at d)
  directive_obeys at (format.word s) = seen _ (obeying_word s)
  directive_obeys at (format.operand i) = seen _ (used_obeys at.inside)
  directive_obeys at format.operands = seen _ (obeying_separated 44 (used_at at.inside) (used_obeys at.inside))
  directive_obeys at (format.successor i) = seen _ (target_obeys at.inside)
  directive_obeys at format.successors = seen _ (obeying_separated 44 (target_at at.inside) (target_obeys at.inside))
  directive_obeys at (format.attribute key) = seen _ (outlined_obeys h)
  directive_obeys at format.dictionary = seen _ (dictionary_obeys h at.any_key)
  directive_obeys at (format.result_type i) = seen _ k
  directive_obeys at format.header = seen _ symbol_obeys
  directive_obeys at (format.region i) = no_piece
  directive_obeys at format.regions = no_piece

  -- a step that is no region
  pub piece_obeys : (at : Setting) (step : Step) → AllObey K (piece_at types_at attr at step)
  piece_obeys at (flat d) = directive_obeys at d
  piece_obeys at types = seen _ (obeying_separated 44 types_at k)
  piece_obeys at (one i) = no_piece
  piece_obeys at all = no_piece

  argument_obeys : AllObey K (argument_at types_at attr)
  argument_obeys = ◌so◌ name_obeys (λ n. ◌then◌ (obeying_spaced (codes ":")) (seen _ k))

  dictionary_if_obeys : AllObey K (dictionary_if_at types_at attr)
  dictionary_if_obeys = obeying_either (begins (the 91)) (seen Some (dictionary_obeys h true)) (obeying_nothing None)

  -- a block's header
  pub head_obeys : AllObey K (head_at types_at attr)
  head_obeys = ◌so◌ label_obeys (λ label. ◌then◌ (obeying_spaced (codes "(")) (◌so◌ (obeying_separated 44 (argument_at types_at attr) argument_obeys) (λ arguments.
      ◌then◌ (obeying_word (codes ")")) (◌then◌ obeying_space (◌so◌ dictionary_if_obeys (λ attributes.
      ◌then◌ obeying_space (◌so◌ mark_if_obeys (λ mark. ◌then◌ obeying_space (seen _ (obeying_word (codes ":")))))))))))

-- ---- an operation's lead and its id
module _ {K : Allowed} where
  named_obeys : (o : Outcome (List (Name ℕ))) (text : Text) → Obeys K text o → Obeys K text (named o text)
  named_obeys (Read ns taken rest) text h = h
  named_obeys (Missing cause) text h = obeys_read text [] [] text refl
  named_obeys (Bad cause upto) text h = obeys_read text [] [] text refl

  results_obey : AllObey K results_at
  results_obey = ◌kept◌ (obeying_separated 44 name_at name_obeys) (obeying_word (codes "="))

  lead_obeys : AllObey K lead_at
  lead_obeys = ◌then◌ obeying_space (◌kept◌ (record { at = λ text. named_obeys (results_at text) text (results_obey.at text) }) obeying_space)

module _ (K : Allowed) (dialects : List (Text × Table)) (no_dialect : (text : Text) (cause : Fault) (left : Text) → NoDialect dialects cause left → IsLeft text left → K.At text cause left)
    (no_operation : (text : Text) (cause : Fault) (left : Text) → NoOperation dialects cause left → IsLeft text left → K.At text cause left) where
  -- an id that is missing or bad after a lead
  missing_led : (lead rest : Text) (cause : Fault) → K.At rest cause rest → Obeys K (lead ++ rest) (registered_after dialects lead (after_lead lead (Missing cause)))
  missing_led [] rest cause a = obeys_missing rest cause a
  missing_led (c ∷ lead) rest cause a = obeys_bad (c ∷ (lead ++ rest)) cause (c ∷ lead) rest refl (K.longer (c ∷ lead) rest cause rest a)

  bad_led : (lead rest : Text) (cause : Fault) (upto left : Text) → upto ++ left ≡ rest → K.At rest cause left → Obeys K (lead ++ rest) (registered_after dialects lead (after_lead lead (Bad cause upto)))
  bad_led [] rest cause upto left e a = obeys_bad rest cause upto left e a
  bad_led (c ∷ lead) rest cause upto left e a = obeys_bad (c ∷ (lead ++ rest)) cause ((c ∷ lead) ++ upto) left
      (append_assoc (c ∷ lead) upto left ∙ ap (λ z. (c ∷ lead) ++ z) e) (K.longer (c ∷ lead) rest cause left a)

  read_led : (lead taken left : Text) (id : Id) → after_lead lead (Read id taken left) ≡ Read id (lead ++ taken) left
  read_led [] taken left id = refl
  read_led (c ∷ lead) taken left id = refl

  -- an id after a lead
  module _ (ns : List (Name ℕ)) (lead rest text : Text) (leads : lead_at text ≡ Read ns lead rest) (whole : lead ++ rest ≡ text) where
    registered_obeys : (o : Outcome Id) → id_at rest ≡ o → Obeys K rest o → Obeys K text (registered_after dialects lead (after_lead lead o))
    registered_obeys (Read id taken left) e h = rw (read_led lead taken left id) (go (is_some (dialect_of dialects id.dialect)) (is_some (registered dialects (op_id id))) refl refl)
      where
        go : (known there : Bool) → is_some (dialect_of dialects id.dialect) ≡ known → is_some (registered dialects (op_id id)) ≡ there
            → Obeys K text (cond known (cond there (Read id (lead ++ taken) left) (Bad (UnregisteredOp id) [])) (Bad (UnregisteredDialect id.dialect) lead))
        go true true k r = obeys_read text id (lead ++ taken) left (append_assoc lead taken left ∙ (ap (λ z. lead ++ z) h.says ∙ whole))
        go true false k r = obeys_bad text (UnregisteredOp id) [] text refl (no_operation text (UnregisteredOp id) text
            (record { names = ns; lead = lead; mid = rest; leads = leads; id = id; taken = taken; rest = left; begins = e; known = k; unknown = r; is = refl }) ([], refl))
        go false there k r = obeys_bad text (UnregisteredDialect id.dialect) lead rest whole (no_dialect text (UnregisteredDialect id.dialect) rest
            (record { id = id; taken = taken; rest = left; begins = e; unknown = k; is = refl }) (lead, whole))
    registered_obeys (Missing cause) e h = subst (λ z. Obeys K z (registered_after dialects lead (after_lead lead (Missing cause)))) whole (missing_led lead rest cause h.says)
    registered_obeys (Bad cause upto) e h = subst (λ z. Obeys K z (registered_after dialects lead (after_lead lead (Bad cause upto)))) whole (bad_led lead rest cause upto h.says.0 h.says.1 h.says.2)

  led_by_obeys : (text : Text) (o : Outcome (List (Name ℕ))) → lead_at text ≡ o → Obeys K text o → Obeys K text (led_by dialects o)
  led_by_obeys text (Read ns lead rest) e h = obeys_mapped text _ _ (registered_obeys ns lead rest text e h.says (id_at rest) refl (obeying_id.at rest))
  led_by_obeys text (Missing cause) e h = obeys_missing text cause h.says
  led_by_obeys text (Bad cause upto) e h = obeys_bad text cause upto h.says.0 h.says.1 h.says.2

  -- an operation's lead and id
  pub led_obeys : AllObey K (led_at dialects)
  led_obeys = record { at = λ text. led_by_obeys text (lead_at text) refl (lead_obeys.at text) }
