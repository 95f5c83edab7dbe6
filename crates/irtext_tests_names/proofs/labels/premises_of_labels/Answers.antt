use Rattle.std.specs.Prelude.{◌≡◌, Bool, true, false, cond, [], ◌∷◌, codes, refl, Some}
use Rattle.std.proofs.Common.{arith, inl, subst}
use Rattle.irtext_base.specs.Text.{Text}
use Rattle.irtext_base.specs.Format.{same_text}
use Rattle.irtext_grammar.specs.Graphs.Closed.{Fit}
use Rattle.irtext_grammar.specs.Graphs.ReservedKeys.{GraphKeepsKeys}
use Rattle.irtext_grammar.specs.Spelling.Spellable.{IsIdentifier}
use Rattle.irtext_grammar.specs.Graphs.RoundTrip.{GraphHeld}
use Rattle.irtext_grammar.specs.Graphs.Same.{SmallGraph}
use Rattle.irtext_grammar.specs.Graphs.Regained.{Named}
use Rattle.irtext_grammar.specs.Graphs.Identifiers.{HasIdentifiers}
use Rattle.irtext_tests_names.specs.Labels.Demo.{isolated}
use Rattle.irtext_tests_names.specs.Located.{text_locations, up_to_bracket}
use Rattle.irtext_tests_names.specs.Graphs.{two_branches}
use Rattle.irtext_tests_names.specs.Labels.Graphs.{a_and_b}
use Rattle.irtext_tests_names.proofs.Premises.{none_some, on}
use Rattle.irtext_tests_names.proofs.labels.premises_of_labels.Goals as goal

held : GraphHeld up_to_bracket text_locations two_branches
held = ((on (codes "1") refl, refl), (tt, ((on (codes "21") refl, refl), ((on (codes "27") refl, refl), tt, tt), ((on (codes "38") refl, refl), ((on (codes "44") refl, refl), tt, tt), tt)), tt))

keeps : GraphKeepsKeys two_branches
keeps = (refl, (tt, (refl, (refl, tt, tt), (refl, (refl, tt, tt), tt)), tt))

fit : Fit a_and_b isolated two_branches
fit = (
  (refl, record { operands = refl; successors = refl; results = refl; regions = refl; keys_there = refl; symbol = refl; others_outlined = refl }),
  (
    (
      ((refl, record { operands = refl; successors = refl; results = refl; regions = refl; keys_there = refl; symbol = refl; others_outlined = refl }), tt, tt),
      (((refl, record { operands = refl; successors = refl; results = refl; regions = refl; keys_there = refl; symbol = refl; others_outlined = refl }), tt, tt), tt),
    ),
    tt,
  ),
)

small : SmallGraph a_and_b isolated two_branches
small = (
  record { results = tt; operands = tt; successors = tt },
  (
    tt,
    (
      record { place = (omega arith, omega arith); arguments = tt },
      (record { results = tt; operands = tt; successors = ((omega arith, omega arith), tt) }, tt, tt),
      (record { place = (omega arith, omega arith); arguments = tt }, (record { results = tt; operands = tt; successors = ((omega arith, omega arith), tt) }, tt, tt), tt),
    ),
    tt,
  ),
)

word_of : (x n : Text) → Some x ≡ Some n → IsIdentifier x → IsIdentifier n
word_of x n e h = let q : x ≡ n = cc in subst IsIdentifier q h

label_word : (b : Bool) (n : Text) → cond b (Some (codes "a")) (Some (codes "b")) ≡ Some n → IsIdentifier n
label_word true n e = word_of (codes "a") n e refl
label_word false n e = word_of (codes "b") n e refl

wordy : HasIdentifiers a_and_b two_branches
wordy = record {
  given = λ v n e. absurd (none_some n e);
  label = λ b n e. label_word (same_text (b.0 ∷ []) (1 ∷ [])) n e;
  own = record { dialect = refl; name = refl; attributes = ((refl, refl), tt) };
  regions = (
    tt,
    (
      record { attributes = tt },
      (record { dialect = refl; name = refl; attributes = tt }, tt, tt),
      (record { attributes = tt }, (record { dialect = refl; name = refl; attributes = tt }, tt, tt), tt),
    ),
    tt,
  );
  marks = omega arith;
}

named : Named a_and_b two_branches
named = (inl refl, (tt, ((refl, inl refl), (inl refl, tt, tt), ((refl, inl refl), (inl refl, tt, tt), tt)), tt))

pub returns-clause-premises : goal.returns-clause-premises
returns-clause-premises c = (wordy, fit, small, keeps, held, refl, omega arith, named)

pub returns-clause-represented : goal.returns-clause-represented
returns-clause-represented c = (
  refl,
  (
    record { shape = record { id = refl; result_types = refl; operands = refl; successors = refl }; attributes = refl },
    (
      tt,
      (
        record { shape = record { argument_types = refl }; label = refl; attributes = refl },
        (record { shape = record { id = refl; result_types = refl; operands = refl; successors = refl }; attributes = refl }, tt, tt),
        (
          record { shape = record { argument_types = refl }; label = refl; attributes = refl },
          (record { shape = record { id = refl; result_types = refl; operands = refl; successors = refl }; attributes = refl }, tt, tt),
          tt,
        ),
      ),
      tt,
    ),
  ),
  refl,
)
