use Rattle.std.proofs.Common.{◌∷◌, [], string_bytes}
use Rattle.irtext_base.specs.Appending.{OnlyAppends}
use Rattle.irtext_print_ops.specs.Heads as heads
use Rattle.irtext_print_ops.specs.Walk.{turns_left}
use Rattle.irtext_print_ops.specs.declared.frame.Frame.TheVariants as framed
use Rattle.irtext_print_ops.proofs.Chained.{Left}
use Rattle.irtext_print_ops.proofs.step.operation_turns.Given as goal

-- what the turns so far have left of the operation; the text was only appended to
abbrev pub invariant-loop-inside : goal.invariant-loop-inside
invariant-loop-inside g l =
    Left (heads.printing_of g.T.IrText g.A.IrText g.A.AttrText g.A.PartialEq.eq l.ctx) (heads.language_of g.T.IrText g.A.IrText g.A.AttrText g.A.PartialEq.eq l.ctx) l.ctx l.width (framed.Operation l.fn.frame) l.fn.items.items (string_bytes l.fn.f) (framed.Operation l.frame) l.items.items (string_bytes l.f)
    × OnlyAppends l.fn.f l.f

abbrev pub decreases-loop-inside : goal.decreases-loop-inside
decreases-loop-inside g l = turns_left (heads.printing_of g.T.IrText g.A.IrText g.A.AttrText g.A.PartialEq.eq l.ctx) (heads.language_of g.T.IrText g.A.IrText g.A.AttrText g.A.PartialEq.eq l.ctx) l.ctx (framed.Operation l.frame ∷ [])
