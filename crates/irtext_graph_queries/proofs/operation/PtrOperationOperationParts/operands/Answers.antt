use Rattle.std.proofs.Common.{rules}
use Rattle.irtext_graph.specs.Parts.{operands}
use Rattle.irtext_graph_queries.proofs.Gathered.{same_each}
use Rattle.irtext_graph_queries.proofs.operation.PtrOperationOperationParts.operands.Goals as goal

pub returns : goal.returns
returns g c = same_each (λ v. v.items) c.listed.result (operands (g.C.HasGraph.graph c.args.ctx.now) c.args.self) (rw (← c.graph-graph.ensures) c.num_operands-count.ensures) (λ i x less at. search rules) c.listed.ensures
