-- The part of a number in hexadecimal digits.
use Rattle.std.specs.Prelude.{ℤ}
use Rattle.irtext_base.specs.Text.{Text}
use Rattle.irtext_tokens.specs.Infix.{Reader, ◌⇒◌}
use Rattle.irtext_tokens.specs.declared.irfmt.parsers.from_str_radix.FromStrRadix as radix
use Rattle.irtext_syntax.specs.declared.number.Number.{Number}
use Rattle.irtext_parts.specs.HexTexts.{hex_number_at, hex_number_text}
use Rattle.irtext_parts.specs.declared.hex.Hex.{Hex}

-- the part of a number
abbrev pub hex_of : {N : Type 0} (g : radix.Ghosts N) → Number N g → Hex N g
hex_of g n = record { number = n }

-- `0x` and hexadecimal digits, as many as come next; a number that does not fit is the error `NumberRange` at its beginning
abbrev pub hex_at : {N : Type 0} (g : radix.Ghosts N) → (ℤ → N) → Reader (Hex N g)
hex_at g of = hex_number_at g of ⇒ hex_of g

-- the text of its number
abbrev pub hex_written : {N : Type 0} (g : radix.Ghosts N) → Hex N g → Text
hex_written g h = hex_number_text g h.number
