use Rattle.std.proofs.Common.{rules, length}
use Rattle.irtext_graph.specs.declared.object.Value.TheVariants.{Result}
use Rattle.irtext_graph.specs.Parts.{results}
use Rattle.irtext_graph_queries.proofs.Gathered.{made_each}
use Rattle.irtext_graph_queries.proofs.operation.PtrOperationOperationParts.results.Goals as goal

pub returns : goal.returns
returns g c = made_each (λ v. v.items) c.listed.result (Result c.args.self) (length (results (g.C.HasGraph.graph c.args.ctx.now) c.args.self)) c.get_num_results-count.ensures (λ i x at. search rules) c.listed.ensures
