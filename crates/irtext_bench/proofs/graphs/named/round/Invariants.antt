use Rattle.irtext_names.specs.Tied.{MatchesGraph}
use Rattle.irtext_bench.proofs.graphs.named.round.Given as goal

abbrev pub invariant-loop-call : goal.invariant-loop-call
invariant-loop-call l = record { tied : MatchesGraph l.names.values l.names.labels l.graph }
