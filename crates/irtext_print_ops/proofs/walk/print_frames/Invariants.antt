use Rattle.std.proofs.Common.{◌≡◌, ◌++◌, string_bytes}
use Rattle.irtext_base.specs.Appending.{OnlyAppends}
use Rattle.irtext_print_ops.specs.Heads as heads
use Rattle.irtext_print_ops.specs.Steps.{listed}
use Rattle.irtext_print_ops.specs.Walk.{AllFit, items_left, turns_left}
use Rattle.irtext_print.specs.declared.printable.refusal.Refusal.{Refusal}
use Rattle.irtext_print.specs.declared.printable.refusal.Refusal.TheVariants.{Misfit}
use Rattle.irtext_print_ops.proofs.Walked.{frames_text, FramesFault}
use Rattle.irtext_print_ops.proofs.walk.print_frames.Given as goal

-- the text was only appended to; what was written and gathered, and what is left of the frames, are all; a fault of what is left is one of what was open, and what doesn't fit in that is left
abbrev pub invariant-loop-frame : goal.invariant-loop-frame
invariant-loop-frame g l = record {
  appends : OnlyAppends l.fn.f l.f;
  text : string_bytes l.f ++ frames_text (heads.printing_of g.T.IrText g.A.IrText g.A.AttrText g.A.PartialEq.eq l.ctx) (heads.language_of g.T.IrText g.A.IrText g.A.AttrText g.A.PartialEq.eq l.ctx) l.ctx l.width l.frames.items l.items.items
      ≡ string_bytes l.fn.f ++ frames_text (heads.printing_of g.T.IrText g.A.IrText g.A.AttrText g.A.PartialEq.eq l.ctx) (heads.language_of g.T.IrText g.A.IrText g.A.AttrText g.A.PartialEq.eq l.ctx) l.ctx l.width (l.fn.frames.items ++ listed l.fn.first) l.fn.items.items;
  items : l.items.items ++ items_left (heads.printing_of g.T.IrText g.A.IrText g.A.AttrText g.A.PartialEq.eq l.ctx) (heads.language_of g.T.IrText g.A.IrText g.A.AttrText g.A.PartialEq.eq l.ctx) l.ctx l.frames.items ≡ l.fn.items.items ++ items_left (heads.printing_of g.T.IrText g.A.IrText g.A.AttrText g.A.PartialEq.eq l.ctx) (heads.language_of g.T.IrText g.A.IrText g.A.AttrText g.A.PartialEq.eq l.ctx) l.ctx (l.fn.frames.items ++ listed l.fn.first);
  fit : AllFit (heads.printing_of g.T.IrText g.A.IrText g.A.AttrText g.A.PartialEq.eq l.ctx) (heads.language_of g.T.IrText g.A.IrText g.A.AttrText g.A.PartialEq.eq l.ctx) l.ctx l.frames.items;
  refuses : (e : Refusal) → FramesFault (heads.printing_of g.T.IrText g.A.IrText g.A.AttrText g.A.PartialEq.eq l.ctx) (heads.language_of g.T.IrText g.A.IrText g.A.AttrText g.A.PartialEq.eq l.ctx) l.ctx l.width e l.frames.items → FramesFault (heads.printing_of g.T.IrText g.A.IrText g.A.AttrText g.A.PartialEq.eq l.ctx) (heads.language_of g.T.IrText g.A.IrText g.A.AttrText g.A.PartialEq.eq l.ctx) l.ctx l.width e (l.fn.frames.items ++ listed l.fn.first);
  misfits : FramesFault (heads.printing_of g.T.IrText g.A.IrText g.A.AttrText g.A.PartialEq.eq l.ctx) (heads.language_of g.T.IrText g.A.IrText g.A.AttrText g.A.PartialEq.eq l.ctx) l.ctx l.width Misfit (l.fn.frames.items ++ listed l.fn.first) → FramesFault (heads.printing_of g.T.IrText g.A.IrText g.A.AttrText g.A.PartialEq.eq l.ctx) (heads.language_of g.T.IrText g.A.IrText g.A.AttrText g.A.PartialEq.eq l.ctx) l.ctx l.width Misfit l.frames.items;
}

abbrev pub decreases-loop-frame : goal.decreases-loop-frame
decreases-loop-frame g l = turns_left (heads.printing_of g.T.IrText g.A.IrText g.A.AttrText g.A.PartialEq.eq l.ctx) (heads.language_of g.T.IrText g.A.IrText g.A.AttrText g.A.PartialEq.eq l.ctx) l.ctx l.frames.items
