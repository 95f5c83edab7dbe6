use Rattle.std.specs.Fmt.{HasWritten, IsPlainFormatter}
use Rattle.irtext_diagnostics.specs.Json.{json_characters}
use Rattle.irtext_diagnostics.proofs.json.fmt_characters.Given as goal

-- the characters so far were appended
abbrev pub invariant-loop-c : goal.invariant-loop-c
invariant-loop-c g l = IsPlainFormatter l.fn.f → HasWritten g.W.Write.write_str_gives l.fn.f (json_characters l.yielded) l.f
