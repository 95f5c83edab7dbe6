use Rattle.std.specs.Fmt.{HasWritten, IsPlainFormatter}
use Rattle.irtext_excerpt.specs.Excerpt.{shown, blanks}
use Rattle.irtext_excerpt.proofs.characters.fmt_blanks.Given as goal

-- as many spaces were appended as are shown for the characters so far
abbrev pub invariant-loop-c : goal.invariant-loop-c
invariant-loop-c g l = IsPlainFormatter l.fn.f → HasWritten g.W.Write.write_str_gives l.fn.f (blanks (shown l.yielded)) l.f
