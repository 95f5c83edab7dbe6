-- Numbers and bytes as they are spelled.
use Rattle.std.specs.Prelude.{ℕ, ◌%◌, Bool, cond, ◌&&◌, ◌||◌, ◌==◌, nat_lt, nat_eq, [], ◌∷◌, length, take, drop, codes}
use Rattle.std.specs.Char.{is_ascii_digit, is_ascii_hexdigit}
use Rattle.std.specs.Float.Numeral.{Parts}
use Rattle.std.specs.List.{list_all}
use Rattle.std.specs.Str.{bytes_eq}
use Rattle.fast_float.specs.Text.{scan}
use Rattle.irtext_base.specs.Text.{Text, begins, in_word}
use Rattle.irtext_base.specs.Faults.{ADigit, Word}
use Rattle.irtext_parts.specs.Spellings.{Rules}

-- the text without the minus that it begins with, if it does
abbrev pub after_minus : Text → Text
after_minus [] = []
after_minus (c ∷ text) = cond (c == 45) text (c ∷ text)

-- a digit or a minus
abbrev pub begins_number : ℕ → Bool
begins_number c = is_ascii_digit c || c == 45

-- one decimal digit or more
abbrev pub is_digits : Text → Bool
is_digits text = begins is_ascii_digit text && list_all is_ascii_digit text

-- an integer of any size: decimal digits, after a minus or none
abbrev pub digits_rules : Rules
digits_rules = record {
  first = begins_number;
  later = begins_number;
  test = λ text. is_digits (after_minus text);
  demand = ADigit;
  refusal = codes "Not an integer: ";
}

-- the length is even
abbrev pub is_even : Text → Bool
is_even text = nat_eq (length text % 2) 0

-- `0x` and an even number of hexadecimal digits
abbrev pub is_bytes : Text → Bool
is_bytes text = bytes_eq (take 2 text) (codes "0x") && (list_all is_ascii_hexdigit (drop 2 text) && is_even text)

-- bytes in hexadecimal digits
abbrev pub hexadecimal_rules : Rules
hexadecimal_rules = record {
  first = λ c. c == 48;
  later = in_word;
  test = is_bytes;
  demand = Word (codes "0x");
  refusal = codes "Not 0x and an even number of hexadecimal digits: ";
}

-- a digit, `.`, the letter or the sign of an exponent
abbrev pub in_decimal : ℕ → Bool
in_decimal c = begins_number c || (c == 46 || (c == 43 || (c == 101 || c == 69)))

-- the parts of a numeral that takes the whole text: digits, and then a point with digits, or an exponent, or both
abbrev pub is_decimal_of : Parts → ℕ → Bool
is_decimal_of p size = nat_eq p.len size && (nat_lt 0 (length p.whole) && cond p.point (nat_lt 0 (length p.fraction)) (nat_lt 0 (length p.exponent)))

-- digits, and then a point with digits, or an exponent, or both
abbrev pub is_decimal : Text → Bool
is_decimal text = is_decimal_of (scan text) (length text)

-- a decimal number with a point or an exponent, after a minus or none
abbrev pub decimal_rules : Rules
decimal_rules = record {
  first = begins_number;
  later = in_decimal;
  test = λ text. is_decimal (after_minus text);
  demand = ADigit;
  refusal = codes "Not a decimal number: ";
}
