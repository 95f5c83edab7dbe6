use Rattle.std.specs.Prelude.{codes, refl}
use Rattle.std.specs.Fmt.{digits}
use Rattle.std.proofs.Common.{arith}
use Rattle.irtext_base.specs.Text.{Text}
use Rattle.irtext_grammar.proofs.Lists.SameText.{same_text_refl, same_text_true}
use Rattle.irtext_grammar.specs.Graphs.Graph.{GraphOp}
use Rattle.irtext_grammar.specs.Graphs.RoundTrip.{GraphHeld}
use Rattle.irtext_tests_names.specs.Graphs.{noted, on_line_one}
use Rattle.irtext_tests_names.specs.Located.{note_on_line_one, text_locations, up_to_bracket}
use Rattle.irtext_tests_names.proofs.Premises.{fit, keeps, on, small, wordy}
use Rattle.irtext_tests_names.proofs.definitions.premises_of_a_section.Goals as goal

pub returns-clause-is_written : goal.returns-clause-is_written
unfolding digits
returns-clause-is_written c = refl

abbrev noted_on_line_one : GraphOp Text Text
noted_on_line_one = record noted { location = on_line_one (codes "27") }

held : GraphHeld up_to_bracket text_locations note_on_line_one
held = ((tt, refl), (tt, ((tt, refl), ((on (codes "27") refl, refl), tt, ((tt, refl), tt, tt)), tt), tt))

pub returns-clause-premises : goal.returns-clause-premises
returns-clause-premises c = (
  wordy noted_on_line_one noted (record { dialect = refl; name = refl; attributes = ((refl, tt), tt) }) (record { dialect = refl; name = refl; attributes = ((refl, tt), tt) }) (omega arith),
  fit noted_on_line_one noted (refl, record { operands = refl; successors = refl; results = refl; regions = refl; keys_there = refl; symbol = refl; others_outlined = refl })
      (refl, record { operands = refl; successors = refl; results = refl; regions = refl; keys_there = refl; symbol = refl; others_outlined = refl }),
  small noted_on_line_one noted (record { results = tt; operands = tt; successors = tt }) (record { results = tt; operands = tt; successors = tt }),
  keeps noted_on_line_one noted refl refl,
  held,
  refl,
  omega arith,
)

pub returns-clause-equality : goal.returns-clause-equality
returns-clause-equality c = (same_text_true, same_text_refl)
