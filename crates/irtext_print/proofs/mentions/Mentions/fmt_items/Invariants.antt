use Rattle.std.proofs.Common.{◌≡◌, string_bytes}
use Rattle.irtext_base.specs.Appending.{OnlyAppends}
use Rattle.irtext_print.specs.Given.{printing_of, given_at}
use Rattle.irtext_print.specs.Items.{language_of}
use Rattle.irtext_print.specs.Mentions as mentions
use Rattle.irtext_print.proofs.Written.{ItemsSoFar}
use Rattle.irtext_print.proofs.mentions.Mentions.fmt_items.Given as goal

-- there are as many items, what was written and what is left are all, and the text was only appended to
abbrev pub invariant-loop-index : goal.invariant-loop-index
invariant-loop-index g l =
    (l.self.items ≡ l.fn.self.items)
    × ItemsSoFar (language_of g.T.IrText g.A.IrText g.A.AttrText g.A.PartialEq.eq l.ctx) (printing_of g.T.IrText g.A.IrText g.A.AttrText g.A.PartialEq.eq l.ctx)
    (given_at g.T.IrText g.A.IrText g.A.AttrText g.A.PartialEq.eq l.ctx) l.fn.self.items l.items (mentions.known_in l.fn.self.known) (mentions.known_in l.self.known) l.index (string_bytes l.fn.f) (string_bytes l.f)
    × OnlyAppends l.fn.f l.f
