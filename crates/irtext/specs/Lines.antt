-- For callers: what the program reads and writes: bytes, and texts as lines.
use Rattle.std.specs.Prelude.{◌≡◌, ◌==◌, ◌-◌, ℕ, Option, Some, None, IfSome, List, [], ◌∷◌, ◌++◌, cond, length, slice_index}
use Rattle.std.specs.Io.KnownBytes.{Appends}

-- a newline
abbrev pub newline : ℕ
newline = 10

-- a text, with a newline after it if it does not end in one
abbrev pub line_of : List ℕ → List ℕ
line_of text = cond (slice_index text (length text - 1) == newline) text (text ++ newline ∷ [])

-- these bytes are all that a reader had left, where that is known
abbrev pub IsInput : Option (List ℕ) → List ℕ → Type 0
IsInput remaining bytes = IfSome remaining (λ xs. bytes ≡ xs)

-- a text was written as a line, if there is one
abbrev pub Says : {W : Type 0} → (W → Option (List ℕ)) → W → W → Option (List ℕ) → Type 0
Says contents old new None = new ≡ old
Says contents old new (Some text) = Appends (contents old) (contents new) (line_of text)
