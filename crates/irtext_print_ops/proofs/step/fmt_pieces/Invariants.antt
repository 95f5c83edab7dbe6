use Rattle.std.proofs.Common.{length, ◌-◌, ◌≡◌, ◌++◌, ◌≤◌, string_bytes}
use Rattle.std.specs.Str.{encode_utf8_all}
use Rattle.irtext_base.specs.Appending.{OnlyAppends}
use Rattle.irtext_print_ops.specs.Heads as heads
use Rattle.irtext_print_ops.specs.Walk.{after_pieces, parts_left}
use Rattle.irtext_print_ops.proofs.step.fmt_pieces.Given as goal

-- the text was only appended to; what was written and what the directives from here on write is all
abbrev pub invariant-loop-at : goal.invariant-loop-at
invariant-loop-at g l = record {
  appends : OnlyAppends l.fn.f l.f;
  text : string_bytes l.f ++ encode_utf8_all (heads.pieces_at g.T.IrText g.A.IrText g.A.AttrText g.A.PartialEq.eq l.ctx l.op l.at) ≡ string_bytes l.fn.f ++ encode_utf8_all (heads.pieces_at g.T.IrText g.A.IrText g.A.AttrText g.A.PartialEq.eq l.ctx l.op l.from);
  following : after_pieces (parts_left (heads.printing_of g.T.IrText g.A.IrText g.A.AttrText g.A.PartialEq.eq l.ctx) (heads.operation_at g.T.IrText g.A.IrText g.A.AttrText g.A.PartialEq.eq l.ctx l.op) l.at)
      ≡ after_pieces (parts_left (heads.printing_of g.T.IrText g.A.IrText g.A.AttrText g.A.PartialEq.eq l.ctx) (heads.operation_at g.T.IrText g.A.IrText g.A.AttrText g.A.PartialEq.eq l.ctx l.op) l.from);
  past : l.from ≤ l.at;
}

abbrev pub decreases-loop-at : goal.decreases-loop-at
decreases-loop-at g l = length l.directives - l.at
