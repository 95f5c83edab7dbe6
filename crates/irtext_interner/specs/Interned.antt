-- Texts that are kept once, each under its number.
use Rattle.std.specs.Prelude.{◌≡◌, ℕ, Option, Some, None, List, [], ◌∷◌, ◌++◌, length, position, slice_get}
use Rattle.std.specs.HashSet.{HashSet}
use Rattle.std.specs.Str.{bytes_eq}

-- the texts of a set, each in bytes
abbrev pub texts_of : {S : Type 0} → HashSet (List ℕ) S → List (List ℕ)
texts_of texts = texts.keys

-- the number that was found, or else the next one
abbrev pub number_or_next : Option ℕ → List (List ℕ) → ℕ
number_or_next (Some i) texts = i
number_or_next None texts = length texts

-- the texts, with one more at the end if it was not found
abbrev pub found_or_last : Option ℕ → List (List ℕ) → List ℕ → List (List ℕ)
found_or_last (Some i) texts text = texts
found_or_last None texts text = texts ++ text ∷ []

-- the number that a text has or gets
abbrev pub number_of : List (List ℕ) → List ℕ → ℕ
number_of texts text = number_or_next (position (bytes_eq text) texts) texts

-- the texts with one more, at the end if it is new
abbrev pub with_text : List (List ℕ) → List ℕ → List (List ℕ)
with_text texts text = found_or_last (position (bytes_eq text) texts) texts text

-- each text keeps its number
abbrev pub KeepsTexts : List (List ℕ) → List (List ℕ) → Type 0
KeepsTexts old new = (i : ℕ) (text : List ℕ) → slice_get old i ≡ Some text → slice_get new i ≡ Some text

-- no text has two numbers
abbrev pub AreDistinct : List (List ℕ) → Type 0
AreDistinct texts = (i j : ℕ) (text : List ℕ) → slice_get texts i ≡ Some text → slice_get texts j ≡ Some text → i ≡ j
