use Rattle.irtext_names.specs.Tied.{MatchesGraph}
use Rattle.irtext_tests_names.proofs.tests.script.differing.Given as goal

abbrev pub invariant-loop-number : goal.invariant-loop-number
invariant-loop-number l = record { tied : MatchesGraph l.names.values l.names.labels l.graph }
