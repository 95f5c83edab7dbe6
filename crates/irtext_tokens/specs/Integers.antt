-- Integers of every type, hexadecimal numbers and truth values: the outcome of each parser on a text.
use mir.Val.{bits}
use Rattle.std.specs.Prelude.{ℕ, ◌+◌, ◌-◌, ◌^◌, ℤ, pos, Bool, true, false, cond, nat_lt, Option, Some, None, Result, [], ◌∷◌, ◌++◌, codes}
use Rattle.std.specs.Char.{is_ascii_digit, is_ascii_hexdigit}
use Rattle.std.specs.Int.{Width}
use Rattle.std.specs.Str.Parse.{digits_value, ParsesSigned, ParsesUnsigned, ExplainsSignedError, ExplainsUnsignedError}
use Rattle.std.specs.declared.num.ParseIntError.{ParseIntError}
use Rattle.irtext_base.specs.Text.{Text, begins, front, after}
use Rattle.irtext_base.specs.Reading.{the}
use Rattle.irtext_base.specs.Stream.{first_of}
use Rattle.irtext_base.specs.Faults.{ADigit, AHexadecimalDigit, ATrueOrFalse, Unexpected, NumberRange}
use Rattle.irtext_base.specs.Answers.{Outcome, Read, Missing, Bad}
use Rattle.irtext_tokens.specs.Infix.{Reader, ◌▷◌, ◌⇒◌, either}
use Rattle.irtext_tokens.specs.Tokens.{word, sign_of, after_sign, negated}

-- how many magnitudes fit an unsigned type with this many bits: none after a minus, not even 0
abbrev pub unsigned_below : ℕ → Bool → ℕ
unsigned_below bits negative = cond negative 0 (2 ^ bits)

-- how many magnitudes fit a signed type with this many bits: one more after a minus
abbrev pub signed_below : ℕ → Bool → ℕ
signed_below bits negative = cond negative (2 ^ (bits - 1) + 1) (2 ^ (bits - 1))

-- a signed number as an integer
abbrev pub itself : ℤ → ℤ
itself z = z

-- the result of parsing a text in this radix as an unsigned type of this width does, with the type's own errors
abbrev pub unsigned_parses : Width → ℕ → Text → Result ℕ ParseIntError → Type 0
unsigned_parses w radix text r = ParsesUnsigned (bits w) radix text r × ExplainsUnsignedError radix text r

-- the same of a signed type
abbrev pub signed_parses : Width → ℕ → Text → Result ℤ ParseIntError → Type 0
signed_parses w radix text r = ParsesSigned w radix text r × ExplainsSignedError radix text r

-- the integer with this magnitude, negated if `negative`
abbrev pub integer_by : Bool → ℕ → ℤ
integer_by negative n = cond negative (negated n) (pos n)

-- the integer with this magnitude, negated if `negative`, if the magnitude is less than the bound
abbrev pub within : (Bool → ℕ) → Bool → ℕ → Option ℤ
within below negative n = cond (nat_lt n (below negative)) (Some (integer_by negative n)) None

-- the same for a magnitude that may not fit 64 bits, which is `None`
abbrev pub within_of : (Bool → ℕ) → Bool → Option ℕ → Option ℤ
within_of below negative None = None
within_of below negative (Some n) = within below negative n

-- the sign as a text
abbrev pub sign_text : Option ℕ → Text
sign_text None = []
sign_text (Some c) = c ∷ []

-- a required digit is missing: committed after a sign, and otherwise uncommitted
abbrev pub no_digit_after : {X : Type 0} → Text → Text → Outcome X
no_digit_after [] text = Missing (Unexpected (first_of text) ADigit)
no_digit_after (c ∷ sign) text = Bad (Unexpected (first_of text) ADigit) (c ∷ sign)

-- an optional sign that is followed by a digit
abbrev pub sign_at : Text → Outcome Text
sign_at text = cond (begins is_ascii_digit (after_sign text)) (Read (sign_of text) (sign_of text) (after_sign text)) (no_digit_after (sign_of text) (after_sign text))

-- consumes nothing, if a hexadecimal digit comes next
abbrev pub before_hexadecimal : Text → Outcome Unit
before_hexadecimal text = cond (begins is_ascii_hexdigit text) (Read tt [] text) (Missing (Unexpected (first_of text) AHexadecimalDigit))

-- `0x` that is followed by a hexadecimal digit
abbrev pub hexadecimal_mark_at : Reader Unit
hexadecimal_mark_at = word (codes "0x") ▷ before_hexadecimal

-- the value of a number's text, or the error `NumberRange` at its beginning if it does not fit
abbrev pub ranged : {X : Type 0} → Text → Text → Option X → Outcome X
ranged taken rest None = Bad (NumberRange taken) []
ranged taken rest (Some x) = Read x taken rest

-- what is parsed before the digits, then as many digits as come next, and the value of both
abbrev pub numeral_at : {L X : Type 0} → (ℕ → Bool) → (L → Text → Option X) → Outcome L → Outcome X
numeral_at digit make (Read lead taken rest) = ranged (taken ++ front digit rest) (after digit rest) (make lead (front digit rest))
numeral_at digit make (Missing cause) = Missing cause
numeral_at digit make (Bad cause upto) = Bad cause upto

-- the integer of a sign and digits, if its magnitude is less than the bound
abbrev pub signed_integer : (Bool → ℕ) → Text → Text → Option ℤ
signed_integer below sign digits = within below (begins (the 45) sign) (digits_value 10 digits)

-- the integer of hexadecimal digits, if its magnitude is less than the bound
abbrev pub hexadecimal_integer : (Bool → ℕ) → Unit {0} → Text → Option ℤ
hexadecimal_integer below mark digits = within below false (digits_value 16 digits)

-- a sign and digits as they are in the text
abbrev pub signed_text : Text → Text → Option Text
signed_text sign digits = Some (sign ++ digits)

-- an integer with an optional sign, of a type with this bound for magnitudes
unfoldable pub int_at : (Bool → ℕ) → Text → Outcome ℤ
int_at below text = numeral_at is_ascii_digit (signed_integer below) (sign_at text)

-- the text of a number with an optional sign
unfoldable pub number_text_at : Text → Outcome Text
number_text_at text = numeral_at is_ascii_digit signed_text (sign_at text)

-- a hexadecimal number, of a type with this bound for magnitudes
unfoldable pub hex_int_at : (Bool → ℕ) → Text → Outcome ℤ
hex_int_at below text = numeral_at is_ascii_hexdigit (hexadecimal_integer below) (hexadecimal_mark_at text)

-- `true` or `false`; if the next character begins neither, a truth value is missing
unfoldable pub bool_at : Reader Bool
bool_at = either (begins (the 116)) (word (codes "true") ⇒ λ _. true) (either (begins (the 102)) (word (codes "false") ⇒ λ _. false) (λ text. Missing (Unexpected (first_of text) ATrueOrFalse)))
