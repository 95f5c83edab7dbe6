use Rattle.std.proofs.Common.{rules, length}
use Rattle.irtext_graph.specs.declared.object.Value.TheVariants.{Argument}
use Rattle.irtext_graph.specs.Parts.{arguments}
use Rattle.irtext_graph_queries.proofs.Gathered.{made_each}
use Rattle.irtext_graph_queries.proofs.block.PtrBasicBlockBlockParts.arguments.Goals as goal

pub returns : goal.returns
returns g c = made_each (λ v. v.items) c.listed.result (Argument c.args.self) (length (arguments (g.C.HasGraph.graph c.args.ctx.now) c.args.self)) c.get_num_arguments-count.ensures (λ i x at. search rules) c.listed.ensures
