use Rattle.std.proofs.Common.{take}
use Rattle.std.specs.Fmt.{HasWritten, IsPlainFormatter}
use Rattle.irtext_tool.specs.Reports.{notes_bytes}
use Rattle.irtext_tool.proofs.report.fmt_notes.Given as goal

-- the notes so far were appended
abbrev pub invariant-loop-note : goal.invariant-loop-note
invariant-loop-note g l = IsPlainFormatter l.fn.f → HasWritten g.W.Write.write_str_gives l.fn.f (notes_bytes l.style (take l.note-index l.notes)) l.f
