use Rattle.std.proofs.Common.{◌∙◌}
use Rattle.irtext_graph.specs.Parts.{blocks}
use Rattle.irtext_graph.specs.declared.object.Object.TheVariants.{TheBlock}
use Rattle.irtext_print_ops.proofs.ChildrenAt.{counted}
use Rattle.irtext_print_ops.proofs.children.count_blocks.Goals as goal

pub returns : goal.returns
returns g c = c.num_children.ensures ∙ counted TheBlock (blocks c.args.graph.now c.args.region)
