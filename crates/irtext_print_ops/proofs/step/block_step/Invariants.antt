use Rattle.std.proofs.Common.{◌∷◌, [], string_bytes}
use Rattle.irtext_base.specs.Appending.{OnlyAppends}
use Rattle.irtext_print_ops.specs.Heads as heads
use Rattle.irtext_print_ops.specs.Walk.{turns_left, Arrives}
use Rattle.irtext_print_ops.specs.declared.frame.Frame.TheVariants as framed
use Rattle.irtext_print_ops.proofs.step.block_step.Given as goal

-- the block that is innermost is reached from the first one, and the text was only appended to
abbrev pub invariant-loop-next : goal.invariant-loop-next
invariant-loop-next g l =
    Arrives (heads.printing_of g.T.IrText g.A.IrText g.A.AttrText g.A.PartialEq.eq l.ctx) (heads.language_of g.T.IrText g.A.IrText g.A.AttrText g.A.PartialEq.eq l.ctx) l.ctx l.width (framed.Block l.fn.frame) (framed.Block l.left) l.fn.items.items l.items.items l.fn.frames.items l.frames.items (string_bytes l.fn.f) (string_bytes l.f)
    × OnlyAppends l.fn.f l.f

abbrev pub decreases-loop-next : goal.decreases-loop-next
decreases-loop-next g l = turns_left (heads.printing_of g.T.IrText g.A.IrText g.A.AttrText g.A.PartialEq.eq l.ctx) (heads.language_of g.T.IrText g.A.IrText g.A.AttrText g.A.PartialEq.eq l.ctx) l.ctx (framed.Block l.left ∷ [])
