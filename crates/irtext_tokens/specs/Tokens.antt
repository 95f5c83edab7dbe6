-- Tokens: the outcome of each parser on a text.
use Rattle.std.specs.Prelude.{ℕ, zero, suc, ℤ, pos, negsuc, Bool, cond, ◌||◌, nat_lt, Option, Some, None, [], ◌∷◌, ◌++◌, codes, ⊤}
use Rattle.std.specs.Char.{is_ascii_digit, is_whitespace}
use Rattle.irtext_base.specs.Text.{Text, begins, front, after, begins_word, in_word}
use Rattle.irtext_base.specs.Reading.{the}
use Rattle.irtext_base.specs.Format.{Id}
use Rattle.irtext_base.specs.Stream.{first_of}
use Rattle.irtext_base.specs.Faults.{Demand, Word, AnIdentifier, ADigit, AnOperation, Unexpected, NumberRange}
use Rattle.irtext_base.specs.Answers.{Outcome, Read, Missing, Bad, prefixed}
pub use Rattle.irtext_stream.specs.Classes.{has}
pub use Rattle.irtext_tokens.specs.Digits.{fitting}
use Rattle.irtext_tokens.specs.Infix.{Reader, ◌▷◌, ◌▶◌, ◌⇒◌}
use Rattle.irtext_tokens.specs.Digits.{value_in}

-- white space, as much as comes next
abbrev pub space_at : Text → Outcome ⊤
space_at text = Read tt (front is_whitespace text) (after is_whitespace text)

-- a letter or `_`, then letters, digits and `_`, as many as come next; if there is no first one, the demand is the expected token
unfoldable pub word_at : Demand → Text → Outcome Text
word_at demand text = cond (begins begins_word text) (Read (front in_word text) (front in_word text) (after in_word text)) (Missing (Unexpected (first_of text) demand))

-- an identifier
abbrev pub identifier_at : Text → Outcome Text
identifier_at text = word_at AnIdentifier text

-- the rest of a word, character by character: if its first character differs the whole word is missing, and if a later one does that is a
-- committed error
abbrev pub spelled_at : Text → Text → Text → Outcome Unit
spelled_at whole [] text = Read tt [] text
spelled_at whole (c ∷ word) [] = Missing (Unexpected None (Word whole))
spelled_at whole (c ∷ word) (d ∷ text) = cond (the c d) (prefixed (d ∷ []) (spelled_at whole word text)) (Missing (Unexpected (Some d) (Word whole)))

-- a fixed text
abbrev pub text_at : Text → Text → Outcome Unit
text_at word text = spelled_at word word text

-- the parser of a fixed text
abbrev pub word : Text → Reader Unit
word w = text_at w

-- whether a character is a plus or a minus
abbrev pub is_sign : ℕ → Bool
is_sign c = the 43 c || the 45 c

-- the sign at the beginning, if there is one
abbrev pub sign_of : Text → Text
sign_of [] = []
sign_of (c ∷ text) = cond (is_sign c) (c ∷ []) []

-- the text after that sign
abbrev pub after_sign : Text → Text
after_sign [] = []
after_sign (c ∷ text) = cond (is_sign c) text (c ∷ text)

-- the number that decimal digits denote, if it fits
abbrev pub value_of : Text → Option ℕ
value_of digits = value_in 10 digits

-- the outcome of a sign and a number that may not fit: the number, or an error at the sign
abbrev pub numbered : Text → Text → Text → Option ℕ → Outcome ℕ
numbered sign digits rest None = Bad (NumberRange (sign ++ digits)) []
numbered sign digits rest (Some n) = cond (begins (the 45) sign) (Bad (NumberRange (sign ++ digits)) []) (Read n (sign ++ digits) rest)

-- a required digit is missing: committed after a sign, and otherwise uncommitted
abbrev pub no_digit : Text → Text → Outcome ℕ
no_digit [] text = Missing (Unexpected (first_of text) ADigit)
no_digit (c ∷ sign) text = Bad (Unexpected (first_of text) ADigit) (c ∷ sign)

-- one digit or more after a sign, as many as come next
abbrev pub digits_at : Text → Text → Outcome ℕ
digits_at sign text = cond (begins is_ascii_digit text) (numbered sign (front is_ascii_digit text) (after is_ascii_digit text) (value_of (front is_ascii_digit text))) (no_digit sign text)

-- a number with an optional sign
unfoldable pub number_at : Text → Outcome ℕ
number_at text = digits_at (sign_of text) (after_sign text)

-- a number, negated
abbrev pub negated : ℕ → ℤ
negated zero = pos 0
negated (suc n) = negsuc n

-- the integer of a sign and a number
abbrev pub signed : Text → ℕ → ℤ
signed sign n = cond (begins (the 45) sign) (negated n) (pos n)

-- the largest magnitude that fits 32 bits after a sign: one more after a minus
abbrev pub greatest : Text → ℕ
greatest sign = cond (begins (the 45) sign) 2147483648 2147483647

-- the integer of a sign and a number, if it fits 32 bits
abbrev pub integer_of : Text → Option ℕ → Option ℤ
integer_of sign None = None
integer_of sign (Some n) = cond (nat_lt (greatest sign) n) None (Some (signed sign n))

-- the outcome of a sign and digits as a 32-bit signed integer: the integer, or an error at the sign
abbrev pub integered : Text → Text → Text → Option ℤ → Outcome ℤ
integered sign digits rest None = Bad (NumberRange (sign ++ digits)) []
integered sign digits rest (Some z) = Read z (sign ++ digits) rest

-- a required digit is missing: committed after a sign, and otherwise uncommitted
abbrev pub no_integer : Text → Text → Outcome ℤ
no_integer [] text = Missing (Unexpected (first_of text) ADigit)
no_integer (c ∷ sign) text = Bad (Unexpected (first_of text) ADigit) (c ∷ sign)

-- a 32-bit signed integer with an optional sign
unfoldable pub integer_at : Text → Outcome ℤ
integer_at text = cond (begins is_ascii_digit (after_sign text))
    (integered (sign_of text) (front is_ascii_digit (after_sign text)) (after is_ascii_digit (after_sign text)) (integer_of (sign_of text) (value_of (front is_ascii_digit (after_sign text)))))
    (no_integer (sign_of text) (after_sign text))

-- the id with this dialect and this name
abbrev pub id_with : Text → Text → Id
id_with dialect name = record { dialect = dialect; name = name }

-- an operation's id
unfoldable pub id_at : Reader Id
id_at = word_at AnOperation ▶ λ dialect. word (codes ".") ▷ identifier_at ⇒ id_with dialect
