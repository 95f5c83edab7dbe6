-- Digits in a radix, and the numbers that they denote.
use Rattle.std.specs.Prelude.{ℕ, ◌*◌, ◌+◌, ◌^◌, Bool, cond, nat_lt, Option, Some, None}
use Rattle.std.specs.Char.{is_ascii_digit, is_ascii_hexdigit}
use Rattle.std.specs.Str.Parse.{digits_value}
use Rattle.irtext_base.specs.Text.{Text}
use Rattle.irtext_tokens.specs.declared.irfmt.parsers.digits.Radix.{Radix}
use Rattle.irtext_tokens.specs.declared.irfmt.parsers.digits.Radix.TheVariants as radix

-- how many different digits a radix has
abbrev pub base : Radix → ℕ
base radix.Decimal = 10
base radix.Hexadecimal = 16

-- whether a character is a digit of a radix
abbrev pub is_digit_in : Radix → ℕ → Bool
is_digit_in radix.Decimal c = is_ascii_digit c
is_digit_in radix.Hexadecimal c = is_ascii_hexdigit c

-- the number, if it is less than 2^64
abbrev pub fitting : ℕ → Option ℕ
fitting n = cond (nat_lt n (2 ^ 64)) (Some n) None

-- the number that digits denote in a base, if it fits
abbrev pub value_in : ℕ → Text → Option ℕ
value_in base digits = fitting (digits_value base digits)

-- the number with one more digit appended, in a base, if it fits
abbrev pub appended : ℕ → Option ℕ → ℕ → Option ℕ
appended base None digit = None
appended base (Some n) digit = fitting (n * base + digit)
