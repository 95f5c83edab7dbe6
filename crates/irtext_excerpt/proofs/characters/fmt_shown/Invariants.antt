use Rattle.std.specs.Fmt.{HasWritten, IsPlainFormatter}
use Rattle.std.specs.Str.{encode_utf8_all}
use Rattle.irtext_excerpt.specs.Excerpt.{shown}
use Rattle.irtext_excerpt.proofs.characters.fmt_shown.Given as goal

-- the characters so far were appended as they are shown
abbrev pub invariant-loop-c : goal.invariant-loop-c
invariant-loop-c g l = IsPlainFormatter l.fn.f → HasWritten g.W.Write.write_str_gives l.fn.f (encode_utf8_all (shown l.yielded)) l.f
