-- The faults of the parsers of an operation's front are in their texts.
use Rattle.std.proofs.Common.{◌≡◌, ◌∙◌, ℕ, length, Bool, true, false, List, [], ◌∷◌, ◌++◌, codes, refl, ap, subst, append_assoc, cond, is_some, Some, None}
use Rattle.std.specs.Prelude.{⊤}
use Rattle.irtext_base.specs.Text.{Text}
use Rattle.irtext_base.specs.Own.{Sincere, IsFront}
use Rattle.irtext_base.specs.Format as format
use Rattle.irtext_base.specs.Format.{Id, Directive}
use Rattle.irtext_base.specs.Faults.{Fault, UnregisteredOp, UnregisteredDialect}
use Rattle.irtext_base.specs.Answers.{Outcome, Read, Missing, Bad, mapped}
use Rattle.irtext_base.specs.Locations.{AttrView}
use Rattle.irtext_base.proofs.Sincere.{Of, of_read, of_missing, of_mapped, of_sincere}
use Rattle.irtext_context.specs.Dialects.{Table}
use Rattle.irtext_context.specs.DialectTable.{dialect_of, registered}
use Rattle.irtext_tokens.specs.AttrTexts.{attr_at}
use Rattle.irtext_tokens.specs.Infix.{Reader, ◌▷◌}
use Rattle.irtext_tokens.specs.Tokens.{identifier_at, id_at, space_at, word}
use Rattle.irtext_tokens.proofs.Honest.{Honest, ◌then◌, ◌kept◌, ◌so◌, seen, honest_either, honest_word, honest_space, honest_id, honest_name, honest_spaced, honest_separated, honest_attr}
use Rattle.irtext_grammar.specs.Readers.Parts.{after_lead}
use Rattle.irtext_grammar.specs.Readers.Marker.{marker, starts_with}
use Rattle.irtext_grammar.specs.Spelling.AttrText.{attr_tree}
use Rattle.irtext_grammar.specs.Readers.Operations.{registered_after}
use Rattle.irtext_grammar.proofs.Causes.Outcomes as obeys
use Rattle.irtext_grammar.proofs.Causes.Outcomes.{Allowed, Obeys, AllObey, obeys_read, obeys_missing, obeys_bad, obeying_nothing}
use Rattle.irtext_grammar.proofs.Causes.Parts.{piece_obeys}
use Rattle.irtext_grammar.proofs.Causes.Tokens.{obeying_space}
use Rattle.irtext_grammar.specs.Contexts.Formats.{op_id}
use Rattle.irtext_grammar.specs.Grammar.Tree as tree
use Rattle.irtext_grammar.specs.Grammar.Tree.{Name, Part}
use Rattle.irtext_grammar.specs.declared.parsed.Setting.{Setting}
use Rattle.irtext_grammar.specs.Heads.{Step, flat, types, one, all, name_at, name_of, used_at, target_at, symbol_at, pair_at, dictionary_by, dictionary_at, outlined_or_at, directive_at, piece_at, results_at, named, lead_at, led_by, led_at, setting}
use Rattle.irtext_grammar.specs.Resume.{front_at}
use Rattle.irtext_parse_nested.proofs.Ended.{within_honest}
use Rattle.irtext_parse_nested.proofs.Faults.{StaysWithin}

-- ---- names
pub name_honest : Honest name_at
name_honest = record { of = λ text. of_mapped text (name_of (length text)) (identifier_at text) ((honest_name _).of text) }

-- ---- dictionaries
module _ {T A : Type 0} (types_at : Text → Outcome T) (attr : Text → Outcome (AttrView A)) (honest_types : Honest types_at) (honest : Honest attr) where
  pair_honest : Honest (pair_at attr)
  pair_honest = ◌so◌ name_honest (λ key. ◌then◌ (honest_spaced (codes ":")) (seen (λ a. (key, a)) (seen _ honest)))

  pub dictionary_honest : Honest (dictionary_at attr)
  unfolding dictionary_by
  dictionary_honest = record { of = λ text. (◌then◌ (honest_word (codes "[")) (◌then◌ honest_space (◌kept◌ (honest_separated 44 (pair_at attr) pair_honest) (honest_word (codes "]"))))).of text }

-- ---- the front
-- any cause is allowed at any place
anything : Allowed
anything = record {
  At = λ text cause left. ⊤;
  token = λ text cause upto left t e. tt;
  name = λ text cause upto left t e. tt;
  longer = λ front text cause left a. tt;
}

obeys_honest : {X : Type 0} {f : Reader X} → Honest f → AllObey anything f
unfolding anything
obeys_honest {X} {f} h = record { at = λ text. go text (f text) (h.of text) }
  where
    go : (text : Text) (o : Outcome X) → Of text o → Obeys anything text o
    go text (Read x taken left) h = obeys_read text x taken left h.says
    go text (Missing cause) h = obeys_missing text cause tt
    go text (Bad cause upto) h = obeys_bad text cause upto h.says.1.0 h.says.1.1 tt

-- the place of a fault is in the text
stays : {X : Type 0} {f : Reader X} → AllObey anything f → StaysWithin f
stays {X} {f} h = record { within = λ text cause upto e. let o = subst (Obeys anything text) e (h.at text) in (o.says.0, o.says.1) }

module _ {T A : Type 0} (types_at : Text → Outcome T) (attr : Text → Outcome (AttrView A)) (of_types : AllObey anything types_at) (of_attr : AllObey anything attr) where
  front_obeys : (at : Setting) (ss : List Step) (found : List (Part ℕ T A)) → AllObey anything (front_at types_at attr at ss found)
  front_obeys at [] found = obeying_nothing found
  front_obeys at (s ∷ ss) found = obeys.◌so◌ (obeys.◌then◌ obeying_space (piece_obeys of_types of_attr at s)) (λ p. front_obeys at ss (found ++ tree.piece p ∷ []))

-- that of a front's fault is, in each setting
pub front_within : {T A : Type 0} (types_at : Text → Outcome T) (reading : Text → Outcome A) → Sincere types_at → Sincere reading → (at : Setting) (ss : List Step) (found : List (Part ℕ T A)) → StaysWithin (front_at types_at (attr_at reading) at ss found)
front_within types_at reading sincere_types sincere at ss found =
    stays (front_obeys types_at (attr_at reading) (obeys_honest (record { of = of_sincere types_at sincere_types })) (obeys_honest (honest_attr (record { of = of_sincere reading sincere }))) at ss found)

-- the same for one piece, after white space
pub spaced_within : {T A : Type 0} (types_at : Text → Outcome T) (reading : Text → Outcome A) → Sincere types_at → Sincere reading → (step : Step) → StaysWithin (space_at ▷ piece_at types_at (attr_at reading) (setting true false) step)
spaced_within types_at reading sincere_types sincere step =
    stays (obeys.◌then◌ obeying_space (piece_obeys (obeys_honest (record { of = of_sincere types_at sincere_types })) (obeys_honest (honest_attr (record { of = of_sincere reading sincere }))) (setting true false) step))

-- ---- the lead
results_honest : Honest results_at
results_honest = ◌kept◌ (honest_separated 44 name_at name_honest) (honest_word (codes "="))

named_of : (o : Outcome (List (Name ℕ))) (text : Text) → Of text o → Of text (named o text)
named_of (Read ns taken rest) text h = h
named_of (Missing cause) text h = of_read text [] [] text refl
named_of (Bad cause upto) text h = of_read text [] [] text refl

pub lead_honest : Honest lead_at
lead_honest = ◌then◌ honest_space (◌kept◌ (record { of = λ text. named_of (results_at text) text (results_honest.of text) }) honest_space)

-- a fault of an id after a lead is after the lead, or at its end, or where the lead begins
module _ (dialects : List (Text × Table)) where
  registered_within : (text lead : Text) (o : Outcome Id) → IsFront lead text → ((c : Fault) (u : Text) → o ≡ Bad c u → IsFront u text) → (cause : Fault) (upto : Text) → registered_after dialects lead o ≡ Bad cause upto → IsFront upto text
  registered_within text lead (Read id taken rest) f h cause upto e = go (is_some (dialect_of dialects id.dialect)) (is_some (registered dialects (op_id id))) e
    where
      go : (a b : Bool) → cond a (cond b (Read id taken rest) (Bad (UnregisteredOp id) [])) (Bad (UnregisteredDialect id.dialect) lead) ≡ Bad cause upto → IsFront upto text
      go true true e = absurd (cc)
      go true false e = let same : [] ≡ upto = cc e in subst (λ z. IsFront z text) same (text, refl)
      go false b e = let same : lead ≡ upto = cc e in subst (λ z. IsFront z text) same f
  registered_within text lead (Missing c) f h cause upto e = absurd (cc)
  registered_within text lead (Bad c u) f h cause upto e = h cause upto e

  after_within : (lead rest : Text) (o : Outcome Id) → ((c : Fault) (u : Text) → o ≡ Bad c u → IsFront u rest) → (c : Fault) (u : Text) → after_lead lead o ≡ Bad c u → IsFront u (lead ++ rest)
  after_within [] rest o h c u e = h c u e
  after_within (x ∷ lead) rest (Read id taken left) h c u e = absurd (cc)
  after_within (x ∷ lead) rest (Missing d) h c u e = let same : x ∷ lead ≡ u = cc e in subst (λ z. IsFront z (x ∷ lead ++ rest)) same (rest, refl)
  after_within (x ∷ lead) rest (Bad d w) h c u e =
      let same : x ∷ lead ++ w ≡ u = cc e in
      let f = h d w refl in
      subst (λ z. IsFront z (x ∷ lead ++ rest)) same (f.0, append_assoc (x ∷ lead) w f.0 ∙ ap (λ z. x ∷ lead ++ z) f.1)

  mapped_bad : {X Y : Type 0} (see : X → Y) (o : Outcome X) (cause : Fault) (upto : Text) → mapped see o ≡ Bad cause upto → o ≡ Bad cause upto
  mapped_bad see (Read x taken rest) cause upto e = absurd (cc)
  mapped_bad see (Missing c) cause upto e = absurd (cc)
  mapped_bad see (Bad c u) cause upto e = let a : c ≡ cause = cc e in let b : u ≡ upto = cc e in ap (λ z. Bad z u) a ∙ ap (λ z. Bad cause z) b

  pub led_within : StaysWithin (led_at dialects)
  led_within = record { within = λ text cause upto e. go text (lead_at text) (lead_honest.of text) cause upto e }
    where
      go : (text : Text) (o : Outcome (List (Name ℕ))) → Of text o → (cause : Fault) (upto : Text) → led_by dialects o ≡ Bad cause upto → IsFront upto text
      go text (Read ns lead rest) h cause upto e =
          subst (λ z. IsFront upto z) h.says
          (registered_within (lead ++ rest) lead (after_lead lead (id_at rest)) (rest, refl) (after_within lead rest (id_at rest) (λ c u f. (within_honest honest_id).within rest c u f)) cause upto (mapped_bad (λ id. (ns, id)) (registered_after dialects lead (after_lead lead (id_at rest))) cause upto e))
      go text (Missing c) h cause upto e = absurd (cc)
      go text (Bad c u) h cause upto e = let same : u ≡ upto = cc e in subst (λ z. IsFront z text) same h.says.1
