use Rattle.irtext_names.specs.Tied.{MatchesGraph}
use Rattle.irtext_bench.proofs.graphs.named.leave_all.Given as goal

abbrev pub invariant-loop : goal.invariant-loop
invariant-loop l = record { tied : MatchesGraph l.names.values l.names.labels l.graph }
