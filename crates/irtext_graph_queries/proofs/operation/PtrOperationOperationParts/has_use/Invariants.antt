use Rattle.irtext_graph.specs.declared.object.Site.{Site}
use Rattle.irtext_graph_queries.proofs.FirstResults.{IsUseOfFirst}
use Rattle.irtext_graph_queries.proofs.operation.PtrOperationOperationParts.has_use.Given as goal

abbrev pub invariant-loop-i : goal.invariant-loop-i
invariant-loop-i g l = record {
  unused : (u : Site) → IsUseOfFirst (g.C.HasGraph.graph l.ctx) l.self l.i u → ⊥;
}
