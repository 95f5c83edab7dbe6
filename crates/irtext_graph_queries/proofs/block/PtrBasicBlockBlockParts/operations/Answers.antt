use Rattle.std.proofs.Common.{rules}
use Rattle.irtext_graph.specs.Parts.{operations_in}
use Rattle.irtext_graph_queries.proofs.Gathered.{same_each}
use Rattle.irtext_graph_queries.proofs.block.PtrBasicBlockBlockParts.operations.Goals as goal

pub returns : goal.returns
returns g c = same_each (λ v. v.items) c.listed.result (operations_in (g.C.HasGraph.graph c.args.ctx.now) c.args.self) c.num_operations-count.ensures (λ i x less at. search rules) c.listed.ensures
