-- Examples of composed parts, each with its law.
use Rattle.std.proofs.Common.{ℕ, refl}
use Rattle.std.specs.Prelude.{⊤}
use Rattle.irtext_syntax.specs.IntegerKinds.{u32, u64}
use Rattle.irtext_syntax.specs.Sequences.{anything_ends}
use Rattle.irtext_syntax.specs.ShapeLaws.{Proved, angle_encloses, square_encloses, round_encloses, comma_joins, number_proved, number_missing, name_proved, then_proved, then_missing, within_proved, list_proved, maybe_proved}
use Rattle.irtext_syntax.specs.Shapes.{angle, square, round, comma, number, name, then_of, within, list_of, maybe}
use Rattle.irtext_syntax.specs.declared.number.Number.{Number}
use Rattle.irtext_parts.specs.HexLaws.{hex_last}
use Rattle.irtext_parts.specs.Shapes.{equals, times, blank, digits, decimal, hexadecimal, hex, truth, symbol, defaulted}
use Rattle.irtext_parts.specs.ShapeLaws.{equals_joins, times_joins, blank_joins, digits_proved, digits_missing, digits_spelled_last, decimal_proved, decimal_missing, decimal_last, hexadecimal_proved, hexadecimal_missing, hexadecimal_last, hex_proved, hex_missing, truth_proved, truth_missing, symbol_proved, symbol_missing, symbol_last, defaulted_proved}

-- `@a = 12`
entry : Proved (then_of {W = ⊤} symbol equals digits)
entry = then_proved symbol_proved (equals_joins symbol_last) digits_proved

-- `[@a 0x1F, ..]`
bits : Proved (list_of square (then_of {W = ⊤} symbol blank (hex u64)))
bits = list_proved square_encloses (then_proved symbol_proved (blank_joins symbol_last) (hex_proved u64 refl)) (then_missing symbol_missing (blank_joins symbol_last) (hex_proved u64 refl))

-- `12 x 1.5 x 0xAB x 0xFF x true`
product : Proved (then_of {W = ⊤} digits times (then_of {W = ⊤} decimal times (then_of {W = ⊤} hexadecimal times (then_of {W = ⊤} (hex u32) times (then_of {W = ⊤} truth times name)))))
product = then_proved digits_proved (times_joins digits_spelled_last) (then_proved decimal_proved (times_joins decimal_last) (then_proved hexadecimal_proved (times_joins hexadecimal_last) (then_proved (hex_proved u32 refl) (times_joins hex_last) (then_proved truth_proved (times_joins anything_ends) name_proved))))

-- lists of the parts that can be items, and optional ones
lists : Proved (list_of square digits) × Proved (list_of square decimal) × Proved (list_of square hexadecimal) × Proved (list_of square (hex u32)) × Proved (list_of square truth)
lists = (list_proved square_encloses digits_proved digits_missing, list_proved square_encloses decimal_proved decimal_missing, list_proved square_encloses hexadecimal_proved hexadecimal_missing, list_proved square_encloses (hex_proved u32 refl) (hex_missing u32 refl), list_proved square_encloses truth_proved truth_missing)

-- `(1.5)` or `()`
sample : Proved (within {B = ⊤} round (maybe decimal))
sample = within_proved round_encloses (maybe_proved decimal_proved decimal_missing)

-- `<4, true>`, and `<, true>` for the default number
aligned : (value : Number ℕ u32.radix) → Proved (within {B = ⊤} angle (then_of {W = ⊤} (defaulted {D = ⊤} value (number u32)) comma truth))
aligned value = within_proved angle_encloses (then_proved (defaulted_proved value (number_proved u32) (number_missing u32)) comma_joins truth_proved)
