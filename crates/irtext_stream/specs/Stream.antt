-- What contracts see of a stream, and the line and the column of a position in its text.
use Rattle.std.specs.Prelude.{◌≡◌, ℕ, min, Bool, true, Option, Some, None, [], ◌∷◌, ◌++◌, ℤ, pos}
use Rattle.irtext_stream.specs.Text.{Text, line_after, column_after}

-- the text that was consumed, the text that is left, and whether the stream has failed
pub record StreamView : Type 0 where
  pub passed : Text
  pub rest : Text
  pub failed : Bool

-- a line or a column as it is given, capped at the largest `i32`
abbrev pub cut : ℕ → ℤ
cut n = pos (min n 2147483647)

-- these are the line and the column of the position after the text
abbrev pub IsAt : ℤ → ℤ → Text → Type 0
IsAt line column text = (line ≡ cut (line_after text)) × (column ≡ cut (column_after text))

-- the first character of a text, if there is one
abbrev pub first_of : Text → Option ℕ
first_of [] = None
first_of (c ∷ text) = Some c

-- the stream with these fields after its next character is consumed, if there is one
abbrev pub advanced_by : Text → Text → Bool → StreamView
advanced_by passed [] failed = record { passed = passed; rest = []; failed = failed }
advanced_by passed (c ∷ rest) failed = record { passed = passed ++ (c ∷ []); rest = rest; failed = failed }

-- the stream after its next character is consumed, if there is one
abbrev pub advanced : StreamView → StreamView
advanced v = advanced_by v.passed v.rest v.failed

-- the same stream, marked as failed
abbrev pub after_failure : StreamView → StreamView
after_failure v = record v { failed = true }

-- the stream after these characters are consumed
abbrev pub after_taken : StreamView → Text → Text → StreamView
after_taken v taken rest = record { passed = v.passed ++ taken; rest = rest; failed = v.failed }

-- this text comes next, and this holds of the stream after it is consumed
abbrev pub Comes : Text → StreamView → (StreamView → Type 0) → Type 0
Comes text v Holds = (rest : Text) × (v.rest ≡ text ++ rest) × Holds (after_taken v text rest)

-- the stream at another position in its text
abbrev pub moved : StreamView → Text → Text → StreamView
moved v passed rest = record { passed = passed; rest = rest; failed = v.failed }
