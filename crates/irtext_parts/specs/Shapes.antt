-- For callers: the parts of this crate, composed as in Rust, beside those of `irtext_syntax`.
use Rattle.std.specs.Bool.{beq}
use Rattle.std.specs.Prelude.{codes}
use Rattle.std.specs.Str.{bytes_eq, encode_utf8_all}
use Rattle.irtext_syntax.specs.IntegerKinds.{Kind}
use Rattle.irtext_syntax.specs.Maybes.{maybe_ends}
use Rattle.irtext_syntax.specs.NameTexts.{ends_word}
use Rattle.irtext_syntax.specs.Sequences.{anything}
use Rattle.irtext_syntax.specs.Shapes.{Shape, Fixed}
use Rattle.irtext_parts.specs.Defaulteds.{defaulted_at, defaulted_text}
use Rattle.irtext_parts.specs.HexOf.{hex_at, hex_written}
use Rattle.irtext_parts.specs.HexTexts.{ends_hex}
use Rattle.irtext_parts.specs.SpelledOf.{spelled_at}
use Rattle.irtext_parts.specs.Spellings.{ends_spelled}
use Rattle.irtext_parts.specs.Symbols.{symbol_at, symbol_text}
use Rattle.irtext_parts.specs.Truths.{truth_at, truth_text}
use Rattle.irtext_parts.specs.contracts.literals.DigitsSpellingSpelling.TheImpl as digits_impl
use Rattle.irtext_parts.specs.contracts.literals.DecimalSpellingSpelling.TheImpl as decimal_impl
use Rattle.irtext_parts.specs.contracts.literals.HexadecimalSpellingSpelling.TheImpl as hexadecimal_impl
use Rattle.irtext_parts.specs.declared.defaulted.Defaulted.{Defaulted}
use Rattle.irtext_parts.specs.declared.hex.Hex.{Hex}
use Rattle.irtext_parts.specs.declared.literals.DigitsSpelling.{DigitsSpelling}
use Rattle.irtext_parts.specs.declared.literals.DecimalSpelling.{DecimalSpelling}
use Rattle.irtext_parts.specs.declared.literals.HexadecimalSpelling.{HexadecimalSpelling}
use Rattle.irtext_parts.specs.declared.spelled.Spelled.{Spelled}
use Rattle.irtext_parts.specs.declared.spelling.Spelling as spelling
use Rattle.irtext_parts.specs.declared.symbol.Symbol.{Symbol}
use Rattle.irtext_parts.specs.declared.truth.Truth.{Truth}

abbrev pub equals : Fixed
equals = record { text = codes "="; printed = codes " = " }

abbrev pub times : Fixed
times = record { text = codes "x"; printed = codes " x " }

abbrev pub blank : Fixed
blank = record { text = codes ""; printed = codes " " }

-- a text that is kept as it is spelled
abbrev pub spelled : {K : Type 0} (g : spelling.Ghosts K) → Shape (Spelled K g)
spelled g = record {
  reading = spelled_at g;
  written = λ x. x.text.characters;
  ends = ends_spelled g.rules;
  test = λ x y. bytes_eq (encode_utf8_all x.text.characters) (encode_utf8_all y.text.characters);
}

-- the values of the three kinds
abbrev pub DigitsText : Type 0
DigitsText = Spelled DigitsSpelling digits_impl.ghosts

abbrev pub DecimalText : Type 0
DecimalText = Spelled DecimalSpelling decimal_impl.ghosts

abbrev pub HexadecimalText : Type 0
HexadecimalText = Spelled HexadecimalSpelling hexadecimal_impl.ghosts

-- an integer of any size
abbrev pub digits : Shape DigitsText
digits = spelled digits_impl.ghosts

-- a decimal number with a point or an exponent
abbrev pub decimal : Shape DecimalText
decimal = spelled decimal_impl.ghosts

-- bytes in hexadecimal digits
abbrev pub hexadecimal : Shape HexadecimalText
hexadecimal = spelled hexadecimal_impl.ghosts

-- a number in hexadecimal digits
abbrev pub hex : {N : Type 0} (k : Kind N) → Shape (Hex N k.radix)
hex k = record { reading = hex_at k.radix k.of; written = hex_written k.radix; ends = ends_hex; test = λ x y. k.test x.number.value y.number.value }

-- a truth value
abbrev pub truth : Shape Truth
truth = record { reading = truth_at; written = truth_text; ends = anything; test = λ x y. beq x.value y.value }

-- a symbol
abbrev pub symbol : Shape Symbol
symbol = record { reading = symbol_at; written = symbol_text; ends = ends_word; test = λ x y. bytes_eq (encode_utf8_all x.name.characters) (encode_utf8_all y.name.characters) }

-- a part with a default value
abbrev pub defaulted : {P D : Type 0} → P → Shape P → Shape (Defaulted P D)
defaulted value inside = record {
  reading = defaulted_at value inside.reading;
  written = defaulted_text inside.test value inside.written;
  ends = maybe_ends inside.ends;
  test = λ x y. inside.test x.value y.value;
}
