use Rattle.irtext_graph.specs.declared.object.Object.TheVariants.{TheOperation}
use Rattle.irtext_graph.specs.Parts.{operations_in}
use Rattle.irtext_graph.proofs.Indexed.{child_within, child_here}
use Rattle.irtext_graph_queries.proofs.block.operation_at.Goals as goal

pub get_child-requires-clause-within : goal.get_child-requires-clause-within
get_child-requires-clause-within g c = rw c.graph.ensures (child_within TheOperation (operations_in (g.C.HasGraph.graph c.args.ctx.now) c.args.block) c.args.index c.requires)

pub returns : goal.returns
returns g c = rw (← c.graph.ensures) (child_here TheOperation (λ x y e. cc) (operations_in c.graph.result.now c.args.block) c.args.index c.get_child.result c.in-TheOperation.child c.get_child.ensures.child c.in-TheOperation.is)
