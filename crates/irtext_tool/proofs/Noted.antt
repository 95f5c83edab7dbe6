-- The bytes of notes, one more at the end.
use Rattle.std.proofs.Common.{◌≡◌, ◌∙◌, ◌+◌, ◌<◌, ℕ, List, [], ◌∷◌, ◌++◌, length, take, get_or, refl, sym, ap, append-nil}
use Rattle.std.proofs.lemmas.List.{append_assoc, take_more}
use Rattle.irtext_diagnostics.specs.declared.messages.Diagnostic.{Diagnostic}
use Rattle.irtext_diagnostics.specs.declared.messages.Style.{Style}
use Rattle.irtext_tool.specs.Reports.{note_bytes, notes_bytes}

notes-append : (style : Style) (xs ys : List Diagnostic) → notes_bytes style (xs ++ ys) ≡ notes_bytes style xs ++ notes_bytes style ys
notes-append style [] ys = refl
notes-append style (note ∷ xs) ys = ap (λ z. note_bytes style note ++ z) (notes-append style xs ys) ∙ sym (append_assoc (note_bytes style note) (notes_bytes style xs) (notes_bytes style ys))

pub notes-more : (style : Style) (notes : List Diagnostic) (k : ℕ) (d : Diagnostic) → k < length notes
    → notes_bytes style (take k notes) ++ note_bytes style (get_or notes k d) ≡ notes_bytes style (take (k + 1) notes)
notes-more style notes k d h =
    let note = get_or notes k d in
    ap (λ z. notes_bytes style (take k notes) ++ z) (sym (append-nil (note_bytes style note))) ∙ sym (notes-append style (take k notes) (note ∷ []))
    ∙ ap (notes_bytes style) (sym (take_more notes k d h))
