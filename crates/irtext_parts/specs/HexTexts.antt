-- Numbers in hexadecimal digits, as parts of a text.
use Rattle.std.specs.Prelude.{ℕ, ℤ, Bool, true, not, ◌++◌, ◌≡◌, ◌^◌, codes}
use Rattle.std.specs.Char.{is_ascii_hexdigit}
use Rattle.std.specs.Fmt.{digits}
use Rattle.irtext_base.specs.Text.{Text, begins}
use Rattle.irtext_tokens.specs.Infix.{Reader}
use Rattle.irtext_tokens.specs.Integers.{hex_int_at}
use Rattle.irtext_tokens.specs.declared.irfmt.parsers.from_str_radix.FromStrRadix as radix
use Rattle.irtext_syntax.specs.NumberOf.{number_if}
use Rattle.irtext_syntax.specs.Numbers.{narrowed, natural}
use Rattle.irtext_syntax.specs.declared.number.Number.{Number}

-- `0x` and the digits of a number, in capital letters and without leading zeros
abbrev pub hex_text : ℕ → Text
hex_text n = codes "0x" ++ digits 16 true n

-- a power of 16, as the place of a hexadecimal digit
abbrev pub IsPower16 : ℕ → Type 0
IsPower16 n = (k : ℕ) × (n ≡ 16 ^ k)

-- no hexadecimal digit comes next
abbrev pub ends_hex : Text → Bool
ends_hex text = not (begins is_ascii_hexdigit text)

-- a number in hexadecimal digits; one that does not fit is the error `NumberRange` at its beginning
abbrev pub hex_number_at : {N : Type 0} (g : radix.Ghosts N) → (ℤ → N) → Reader (Number N g)
hex_number_at g of text = narrowed (λ z. number_if g (of z)) (hex_int_at g.below text)

-- the text of a number that has no sign
abbrev pub hex_number_text : {N : Type 0} (g : radix.Ghosts N) → Number N g → Text
hex_number_text g n = hex_text (natural (g.number n.value))
