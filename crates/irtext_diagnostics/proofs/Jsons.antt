-- Texts and notes in JSON, one more at the end.
use Rattle.std.proofs.Common.{◌≡◌, ◌∙◌, ◌+◌, ◌<◌, ℕ, List, [], ◌∷◌, ◌++◌, length, take, get_or, refl, sym, ap, append-nil}
use Rattle.std.proofs.lemmas.List.{append_assoc, take_more}
use Rattle.irtext_diagnostics.specs.Json.{json_character, json_characters, json_note, more_notes}
use Rattle.irtext_diagnostics.specs.declared.messages.Diagnostic.{Diagnostic}

characters-append : (xs ys : List ℕ) → json_characters (xs ++ ys) ≡ json_characters xs ++ json_characters ys
characters-append [] ys = refl
characters-append (c ∷ xs) ys = ap (λ z. json_character c ++ z) (characters-append xs ys) ∙ sym (append_assoc (json_character c) (json_characters xs) (json_characters ys))

pub characters-more : (xs : List ℕ) (c : ℕ) → json_characters xs ++ json_character c ≡ json_characters (xs ++ (c ∷ []))
characters-more xs c = ap (λ z. json_characters xs ++ z) (sym (append-nil (json_character c))) ∙ sym (characters-append xs (c ∷ []))

notes-append : (xs ys : List Diagnostic) → more_notes (xs ++ ys) ≡ more_notes xs ++ more_notes ys
notes-append [] ys = refl
notes-append (note ∷ xs) ys = ap (λ z. (44 ∷ json_note note) ++ z) (notes-append xs ys) ∙ sym (append_assoc (44 ∷ json_note note) (more_notes xs) (more_notes ys))

pub notes-more : (notes : List Diagnostic) (k : ℕ) (d : Diagnostic) → k < length notes
    → more_notes (take k notes) ++ (44 ∷ json_note (get_or notes k d)) ≡ more_notes (take (k + 1) notes)
notes-more notes k d h =
    let note = get_or notes k d in
    ap (λ z. more_notes (take k notes) ++ z) (sym (append-nil (44 ∷ json_note note))) ∙ sym (notes-append (take k notes) (note ∷ []))
    ∙ ap more_notes (sym (take_more notes k d h))
