use Rattle.std.proofs.Common.{◌∙◌}
use Rattle.irtext_graph.specs.Parts.{regions}
use Rattle.irtext_graph.specs.declared.object.Object.TheVariants.{TheRegion}
use Rattle.irtext_print_ops.proofs.ChildrenAt.{counted}
use Rattle.irtext_print_ops.proofs.children.count_regions.Goals as goal

pub returns : goal.returns
returns g c = c.num_children.ensures ∙ counted TheRegion (regions c.args.graph.now c.args.op)
