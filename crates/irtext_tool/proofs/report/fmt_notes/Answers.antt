use Rattle.std.proofs.Common.{true, refl}
use Rattle.std.proofs.Output.{has_written_append, has_written_of_eq}
use Rattle.irtext_tool.proofs.Noted.{notes-more}
use Rattle.irtext_tool.proofs.report.fmt_notes.Goals as goal

pub loop-note-preserved : goal.loop-note-preserved
loop-note-preserved g c = λ plain.
    let so_far = c.loop-note.invariant plain in
    has_written_of_eq _ _ _ _ _ (notes-more c.args.style c.args.notes.now c.loop-note.note-index _ c.loop-note-test.true) (has_written_append _ _ _ _ _ _ so_far (c.in_ok-fmt_note.ensures so_far.plain (refl {a = true})))
