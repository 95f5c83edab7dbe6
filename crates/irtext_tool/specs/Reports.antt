-- For callers: errors as they are written, in bytes.
use Rattle.std.specs.Prelude.{ℕ, List, [], ◌∷◌, ◌++◌, Option}
use Rattle.std.specs.Borrow.{Bor}
use Rattle.irtext_diagnostics.specs.Json.{json_line}
use Rattle.irtext_diagnostics.specs.Messages.{styled_bytes}
use Rattle.irtext_diagnostics.specs.declared.messages.Diagnostic.{Diagnostic}
use Rattle.irtext_diagnostics.specs.declared.messages.Severity.{Severity}
use Rattle.irtext_diagnostics.specs.declared.messages.Style.{Style}
use Rattle.irtext_excerpt.specs.declared.Excerpt.{Excerpt}
use Rattle.irtext_tool.specs.declared.about.Form.{Form}
use Rattle.irtext_tool.specs.declared.about.Form.TheVariants as form
use Rattle.irtext_tool.specs.declared.report.Report.{Report}

-- a note in a style
abbrev pub note_bytes : Style → Diagnostic → List ℕ
note_bytes style note = styled_bytes style note.severity note.path.now note.place note.message.now

-- notes, one after the other
abbrev pub notes_bytes : Style → List Diagnostic → List ℕ
notes_bytes style [] = []
notes_bytes style (note ∷ notes) = note_bytes style note ++ notes_bytes style notes

-- a message in a form, with its notes: after it, or in the one line of JSON that has it, with its cause and its name
abbrev pub said_bytes : Form → Severity → List ℕ → Option Excerpt → List ℕ → List ℕ → Option (Bor (List ℕ)) → List Diagnostic → List ℕ
said_bytes (form.Text style) severity path place message cause name notes = styled_bytes style severity path place message ++ notes_bytes style notes
said_bytes form.Json severity path place message cause name notes = json_line severity path place message cause name notes

-- an error in a form
abbrev pub report_bytes : Form → Report → List ℕ
report_bytes form report =
    let d = report.diagnostic in
    said_bytes form d.severity d.path.now d.place d.message.now report.cause.now report.name report.notes.now
