use Rattle.irtext_graph.specs.Chained.{Lists}
use Rattle.irtext_graph_queries.proofs.FirstResults.{IsUseOfFirst}
use Rattle.irtext_graph_queries.proofs.operation.PtrOperationOperationParts.uses.Given as goal

abbrev pub invariant-loop-i : goal.invariant-loop-i
invariant-loop-i g l = record {
  listed : Lists (IsUseOfFirst (g.C.HasGraph.graph l.ctx) l.self l.i) l.all.items;
}
