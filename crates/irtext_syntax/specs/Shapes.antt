-- For callers: parts of texts, composed as in Rust: `Within<Angle, Number<u32>>` is `within angle (number u32)`.
use Rattle.std.specs.Bool.{beq}
use Rattle.std.specs.Prelude.{Bool, true, false, List, Option, Some, None, ◌&&◌, codes, decimal, nat_eq}
use Rattle.std.specs.Cmp.Lexicographic.{pointwise}
use Rattle.std.specs.Fmt.{signed_decimal}
use Rattle.std.specs.Str.{bytes_eq, encode_utf8_all}
use Rattle.irtext_base.specs.Text.{Text}
use Rattle.irtext_tokens.specs.Infix.{Reader}
use Rattle.irtext_syntax.specs.IntegerKinds.{Kind}
use Rattle.irtext_syntax.specs.KeywordTexts.{keyword_at, flag_at, flag_text, ends_flag}
use Rattle.irtext_syntax.specs.ListParts.{list_at, list_text}
use Rattle.irtext_syntax.specs.Maybes.{maybe_at, maybe_text, maybe_ends}
use Rattle.irtext_syntax.specs.NameTexts.{WordText, name_at, name_text, ends_word}
use Rattle.irtext_syntax.specs.NumberOf.{number_at}
use Rattle.irtext_syntax.specs.Numbers.{ends_digits}
use Rattle.irtext_syntax.specs.Owns.{own_at, own_text, ends_text}
use Rattle.irtext_syntax.specs.QuotedParts.{characters_at, characters_text}
use Rattle.irtext_syntax.specs.RangeOf.{ranged_at}
use Rattle.irtext_syntax.specs.ScalarTexts.{ScalarText}
use Rattle.irtext_syntax.specs.Sequences.{then_at, of_then, within_at, of_within, anything}
use Rattle.irtext_syntax.specs.declared.number.Number.{Number}
use Rattle.irtext_syntax.specs.declared.own.Own.{Own}
use Rattle.irtext_syntax.specs.declared.range.Range as range
use Rattle.irtext_syntax.specs.declared.range.Ranged.{Ranged}
use Rattle.irtext_syntax.specs.declared.sequence.Then.{Then}
use Rattle.irtext_syntax.specs.declared.sequence.Within.{Within}

-- a part: what is parsed of a text, what is printed for a value, whether a text can come right after that, and the test for equality
pub record Shape (X : Type 0) : Type 0 where
  pub reading : Reader X
  pub written : X → Text
  pub ends : Text → Bool
  pub test : X → X → Bool

-- a fixed text between two parts, as it is parsed and as it is printed
pub record Fixed : Type 0 where
  pub text : Text
  pub printed : Text

-- brackets around a part, as they are parsed and as they are printed
pub record Around : Type 0 where
  pub opener : Text
  pub closer : Text
  pub opener_printed : Text
  pub closer_printed : Text

abbrev pub colon : Fixed
colon = record { text = codes ":"; printed = codes ": " }

abbrev pub comma : Fixed
comma = record { text = codes ","; printed = codes ", " }

abbrev pub arrow : Fixed
arrow = record { text = codes "->"; printed = codes "->" }

abbrev pub spaced_arrow : Fixed
spaced_arrow = record { text = codes "->"; printed = codes " -> " }

abbrev pub angle : Around
angle = record { opener = codes "<"; closer = codes ">"; opener_printed = codes "<"; closer_printed = codes ">" }

abbrev pub round : Around
round = record { opener = codes "("; closer = codes ")"; opener_printed = codes "("; closer_printed = codes ")" }

abbrev pub square : Around
square = record { opener = codes "["; closer = codes "]"; opener_printed = codes "["; closer_printed = codes "]" }

abbrev pub curly : Around
curly = record { opener = codes "{"; closer = codes "}"; opener_printed = codes "{ "; closer_printed = codes " }" }

-- a number of an integer type
abbrev pub number : {N : Type 0} → (k : Kind N) → Shape (Number N k.radix)
number k = record { reading = number_at k.radix k.of; written = λ n. signed_decimal (k.radix.number n.value); ends = ends_digits; test = λ x y. k.test x.value y.value }

-- a quoted text
abbrev pub quoted : Shape ScalarText
quoted = record { reading = characters_at; written = characters_text; ends = anything; test = λ s t. bytes_eq (encode_utf8_all s.characters) (encode_utf8_all t.characters) }

-- an identifier
abbrev pub name : Shape WordText
name = record { reading = name_at; written = name_text; ends = ends_word; test = λ x y. bytes_eq x.characters y.characters }

-- a fixed word that is always there
abbrev pub keyword : Text → Shape Unit
keyword word = record { reading = keyword_at word; written = λ _. word; ends = ends_word; test = λ _ _. true }

-- a fixed word that is there or not
abbrev pub flag : Text → Shape Bool
flag word = record { reading = flag_at word; written = flag_text word; ends = ends_flag word; test = beq }

-- a number of a range
abbrev pub ranged : {R : Type 0} (g : range.Ghosts R) → Shape (Ranged R g)
ranged g = record { reading = ranged_at g; written = λ n. decimal n.value; ends = ends_digits; test = λ x y. nat_eq x.value y.value }

-- a type or an attribute of the whole context, given what is parsed and printed for it
abbrev pub own : {T : Type 0} → Reader T → (T → Text) → (T → T → Bool) → Shape (Own T)
own reading written test = record { reading = own_at reading; written = own_text written; ends = ends_text; test = λ x y. test x.value y.value }

-- two parts with a fixed text between them
abbrev pub then_of : {P W Q : Type 0} → Shape P → Fixed → Shape Q → Shape (Then P W Q)
then_of first between second = record {
  reading = then_at first.reading between.text second.reading;
  written = of_then first.written between.printed second.written;
  ends = second.ends;
  test = λ x y. first.test x.first y.first && second.test x.second y.second;
}

-- a part in brackets
abbrev pub within : {B P : Type 0} → Around → Shape P → Shape (Within B P)
within around inside = record {
  reading = within_at around.opener around.closer inside.reading;
  written = of_within around.opener_printed inside.written around.closer_printed;
  ends = anything;
  test = λ x y. inside.test x.inside y.inside;
}

-- a list in brackets, with commas
abbrev pub list_of : {P : Type 0} → Around → Shape P → Shape (List P)
list_of around item = record {
  reading = list_at around.opener 44 item.reading around.closer;
  written = list_text around.opener_printed 44 item.written around.closer_printed;
  ends = anything;
  test = pointwise item.test;
}

-- whether two values, or two that are left out, are equal
abbrev pub maybe_eq : {P : Type 0} → (P → P → Bool) → Option P → Option P → Bool
maybe_eq test (Some x) (Some y) = test x y
maybe_eq test None None = true
maybe_eq test _ _ = false

-- a part that may be left out
abbrev pub maybe : {P : Type 0} → Shape P → Shape (Option P)
maybe inside = record { reading = maybe_at inside.reading; written = maybe_text inside.written; ends = maybe_ends inside.ends; test = maybe_eq inside.test }
