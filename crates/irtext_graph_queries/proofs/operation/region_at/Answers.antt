use Rattle.irtext_graph.specs.declared.object.Object.TheVariants.{TheRegion}
use Rattle.irtext_graph.specs.Parts.{regions}
use Rattle.irtext_graph.proofs.Indexed.{child_within, child_here}
use Rattle.irtext_graph_queries.proofs.operation.region_at.Goals as goal

pub get_child-requires-clause-within : goal.get_child-requires-clause-within
get_child-requires-clause-within g c = rw c.graph.ensures (child_within TheRegion (regions (g.C.HasGraph.graph c.args.ctx.now) c.args.op) c.args.index c.requires)

pub returns : goal.returns
returns g c = rw (← c.graph.ensures) (child_here TheRegion (λ x y e. cc) (regions c.graph.result.now c.args.op) c.args.index c.get_child.result c.in-TheRegion.child c.get_child.ensures.child c.in-TheRegion.is)
