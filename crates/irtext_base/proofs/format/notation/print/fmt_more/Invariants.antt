use Rattle.std.proofs.Common.{flat_map, take}
use Rattle.std.specs.Fmt.{HasWritten, IsPlainFormatter}
use Rattle.irtext_base.specs.Notation.{spaced_bytes}
use Rattle.irtext_base.proofs.format.notation.print.fmt_more.Given as goal

-- the text of the directives so far was written
abbrev pub invariant-loop-d : goal.invariant-loop-d
invariant-loop-d g l =
    IsPlainFormatter l.initial.f → HasWritten g.W.Write.write_str_gives l.initial.f (flat_map spaced_bytes (take l.d-index l.directives)) l.f
