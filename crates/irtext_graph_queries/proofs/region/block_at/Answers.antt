use Rattle.irtext_graph.specs.declared.object.Object.TheVariants.{TheBlock}
use Rattle.irtext_graph.specs.Parts.{blocks}
use Rattle.irtext_graph.proofs.Indexed.{child_within, child_here}
use Rattle.irtext_graph_queries.proofs.region.block_at.Goals as goal

pub get_child-requires-clause-within : goal.get_child-requires-clause-within
get_child-requires-clause-within g c = rw c.graph.ensures (child_within TheBlock (blocks (g.C.HasGraph.graph c.args.ctx.now) c.args.region) c.args.index c.requires)

pub returns : goal.returns
returns g c = rw (← c.graph.ensures) (child_here TheBlock (λ x y e. cc) (blocks c.graph.result.now c.args.region) c.args.index c.get_child.result c.in-TheBlock.child c.get_child.ensures.child c.in-TheBlock.is)
