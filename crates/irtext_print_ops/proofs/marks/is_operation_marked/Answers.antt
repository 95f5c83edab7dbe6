use Rattle.std.proofs.Common.{◌∙◌}
use Rattle.irtext_print_ops.specs.Heads as heads
use Rattle.irtext_print_ops.proofs.Marked.{operation_marked}
use Rattle.irtext_print_ops.proofs.marks.is_operation_marked.Goals as goal

pub returns : goal.returns
returns g c =
    c.is_marked.ensures
    ∙ operation_marked (heads.printing_of g.T.IrText g.A.IrText g.A.AttrText g.A.PartialEq.eq c.args.ctx.now) g.A.IrText.written c.args.ctx.now c.args.op c.requires.live
