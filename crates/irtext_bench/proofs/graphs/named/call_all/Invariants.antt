use Rattle.irtext_names.specs.Tied.{MatchesGraph}
use Rattle.irtext_bench.proofs.graphs.named.call_all.Given as goal

abbrev pub invariant-loop-text : goal.invariant-loop-text
invariant-loop-text l = record { tied : MatchesGraph l.names.values l.names.labels l.graph }
