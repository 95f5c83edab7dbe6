use Rattle.std.proofs.Common.{take}
use Rattle.std.specs.Fmt.{HasWritten, IsPlainFormatter}
use Rattle.irtext_diagnostics.specs.Json.{more_notes}
use Rattle.irtext_diagnostics.proofs.json.fmt_more.Given as goal

-- the notes so far were appended
abbrev pub invariant-loop-note : goal.invariant-loop-note
invariant-loop-note g l = IsPlainFormatter l.fn.f → HasWritten g.W.Write.write_str_gives l.fn.f (more_notes (take l.note-index l.notes)) l.f
