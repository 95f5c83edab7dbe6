-- The pieces of which the notation of a format consists, and what comes next in a text.
use Rattle.std.specs.Prelude.{ℕ, ◌^◌, Bool, true, false, cond, ◌&&◌, ◌==◌, nat_lt, List, [], ◌∷◌, ◌++◌, Option, Some, None}
use Rattle.std.specs.List.{list_all}
use Rattle.std.specs.Char.{is_ascii, is_ascii_digit, is_ascii_graphic}
use Rattle.std.specs.Str.{chars}
use Rattle.std.specs.Str.Parse.{digits_value}
use Rattle.irtext_stream.specs.Text.{Text, begins, front, after}
use Rattle.irtext_stream.specs.declared.notation.fault.NotationPart.{NotationPart}
use Rattle.irtext_stream.specs.declared.notation.fault.NotationPart.TheVariants as part

-- the characters of a text, given by its bytes; an ASCII text is its bytes
abbrev pub characters : List ℕ → Text
characters bytes = cond (list_all is_ascii bytes) bytes (chars bytes)

-- a character of a literal as it is written: a backquote twice, any other character as it is
abbrev pub spelled : ℕ → Text
spelled c = cond (c == 96) (c ∷ c ∷ []) (c ∷ [])

-- what comes next in a text: a value, with the text after it; or the text is wrong where this text begins, since this part is expected
pub data Meaning (X : Type 0) : Type 0 where
  means : X → Text → Meaning X
  unmet : NotationPart → Text → Meaning X

-- the meaning with a function applied to its value
abbrev pub mapped : {X Y : Type 0} → (X → Y) → Meaning X → Meaning Y
mapped see (means x rest) = means (see x) rest
mapped see (unmet expected rest) = unmet expected rest

-- a value, and after it another
abbrev pub followed : {X Y : Type 0} → Meaning X → (X → Text → Meaning Y) → Meaning Y
followed (means x rest) next = next x rest
followed (unmet expected rest) next = unmet expected rest

-- nothing is left of the text
abbrev pub is_end : Text → Bool
is_end [] = true
is_end (c ∷ text) = false

-- the text after this word, if it comes next
abbrev pub past : Text → Text → Option Text
past [] text = Some text
past (c ∷ s) [] = None
past (c ∷ s) (d ∷ text) = cond (c == d) (past s text) None

-- what the text after the word means, if the word came next; otherwise the other meaning
abbrev pub led : {X : Type 0} → Option Text → (Text → Meaning X) → Meaning X → Meaning X
led (Some rest) next other = next rest
led None next other = other

-- the number that the decimal digits that come next denote
abbrev pub index_of : Text → ℕ
index_of text = digits_value 10 (front is_ascii_digit text)

-- an index: one decimal digit or more, as many as come next, which denote a number below 2 ^ 64
abbrev pub index_at : NotationPart → Text → Meaning ℕ
index_at expected text = cond (begins is_ascii_digit text && nat_lt (index_of text) (2 ^ 64)) (means (index_of text) (after is_ascii_digit text)) (unmet expected text)

-- an index, and then this word
abbrev pub closed_at : Text → NotationPart → Text → Meaning ℕ
closed_at close expected text = followed (index_at part.Index text) (λ i rest. led (past close rest) (means i) (unmet expected rest))

-- The characters of a literal after those found so far, up to the backquote that closes it. A backquote with another one right after it
-- is a character of the literal. The flag says that a backquote came right before the text.
abbrev pub letters_after : Text → Bool → Text → Meaning Text
letters_after found true [] = means found []
letters_after found true (c ∷ text) = cond (c == 96) (letters_after (found ++ c ∷ []) false text) (means found (c ∷ text))
letters_after found false [] = unmet part.Backquote []
letters_after found false (c ∷ text) = cond (c == 96) (letters_after found true text) (cond (is_ascii_graphic c) (letters_after (found ++ c ∷ []) false text) (unmet part.Backquote (c ∷ text)))
