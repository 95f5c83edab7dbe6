use Rattle.irtext_names.specs.Tied.{MatchesGraph}
use Rattle.irtext_tests_names.proofs.tests.rows.answers.Given as goal

abbrev pub invariant-loop-word : goal.invariant-loop-word
invariant-loop-word l = record { tied : MatchesGraph l.names.values l.names.labels l.graph }
