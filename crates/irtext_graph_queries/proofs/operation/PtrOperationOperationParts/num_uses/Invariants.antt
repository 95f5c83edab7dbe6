use Rattle.irtext_graph.specs.Chained.{Counts}
use Rattle.irtext_graph_queries.proofs.FirstResults.{IsUseOfFirst}
use Rattle.irtext_graph_queries.proofs.operation.PtrOperationOperationParts.num_uses.Given as goal

abbrev pub invariant-loop-i : goal.invariant-loop-i
invariant-loop-i g l = record {
  counted : Counts (IsUseOfFirst (g.C.HasGraph.graph l.ctx) l.self l.i) l.n;
}
