use Rattle.std.proofs.Common.{arith}
use Rattle.irtext_graph.specs.Parts.{operations_in}
use Rattle.irtext_graph.specs.declared.object.Object.TheVariants.{TheOperation}
use Rattle.irtext_print_ops.proofs.ChildrenAt.{past_last}
use Rattle.irtext_print_ops.proofs.children.operation_at.Goals as goal

pub returns-then-index-num_children-clause-is : goal.returns-then-index-num_children-clause-is
returns-then-index-num_children-clause-is g c = past_last TheOperation (operations_in c.args.graph.now c.args.block) c.num_children.result c.args.index c.num_children.ensures (omega (arith, c.if-index-num_children.true))
