-- For callers: the laws of the parts of this crate, composed as the parts are.
use Rattle.std.proofs.Common.{◌≡◌, true, ◌++◌, codes, refl}
use Rattle.irtext_syntax.specs.IntegerKinds.{Kind}
use Rattle.irtext_syntax.specs.NameTexts.{ends_word}
use Rattle.irtext_syntax.specs.NameLaws.{word_last}
use Rattle.irtext_syntax.specs.PartLaws.{EndsAnywhere}
use Rattle.irtext_syntax.specs.QuotedLaws.{characters_decides}
use Rattle.irtext_syntax.specs.ReadyTexts.{ends_spaced}
use Rattle.irtext_syntax.specs.ShapeLaws.{Proved, CanMiss, Joins}
use Rattle.irtext_syntax.specs.Shapes.{Shape}
use Rattle.irtext_parts.specs.DefaultLaws.{defaulted_law, defaulted_decides}
use Rattle.irtext_parts.specs.HexLaws.{hex_law, hex_misses, hex_decides}
use Rattle.irtext_parts.specs.LiteralLaws.{digits_rules_law, hexadecimal_rules_law, decimal_rules_law}
use Rattle.irtext_parts.specs.Literals.{digits_rules, hexadecimal_rules, decimal_rules}
use Rattle.irtext_parts.specs.Shapes.{equals, times, blank, spelled, digits, decimal, hexadecimal, hex, truth, symbol, defaulted}
use Rattle.irtext_parts.specs.SpacedTexts.{equals_law, times_law, blank_law}
use Rattle.irtext_parts.specs.SpelledLaws.{spelled_law, spelled_last, spelled_misses, spelled_decides}
use Rattle.irtext_parts.specs.Spellings.{RulesLaw, ends_spelled}
use Rattle.irtext_parts.specs.SymbolLaws.{symbol_law, symbol_misses, symbol_decides}
use Rattle.irtext_parts.specs.TruthLaws.{truth_law, truth_misses, truth_decides}
use Rattle.irtext_parts.specs.contracts.literals.DigitsSpellingSpelling.TheImpl as digits_impl
use Rattle.irtext_parts.specs.contracts.literals.DecimalSpellingSpelling.TheImpl as decimal_impl
use Rattle.irtext_parts.specs.contracts.literals.HexadecimalSpellingSpelling.TheImpl as hexadecimal_impl
use Rattle.irtext_parts.specs.declared.spelling.Spelling as spelling

-- ` = `, ` x ` and a space can come after a part that can end a text
pub equals_joins : {X : Type 0} {first : Shape X} → EndsAnywhere first.ends → Proved first → Joins first equals
equals_joins last p = record { law = equals_law; after = λ rest. last.anywhere (codes " = " ++ rest) (ends_spaced (codes "= " ++ rest)) }

pub times_joins : {X : Type 0} {first : Shape X} → EndsAnywhere first.ends → Proved first → Joins first times
times_joins last p = record { law = times_law; after = λ rest. last.anywhere (codes " x " ++ rest) (ends_spaced (codes "x " ++ rest)) }

pub blank_joins : {X : Type 0} {first : Shape X} → EndsAnywhere first.ends → Proved first → Joins first blank
blank_joins last p = record { law = blank_law; after = λ rest. last.anywhere (codes " " ++ rest) (ends_spaced rest) }

pub spelled_proved : {K : Type 0} (g : spelling.Ghosts K) → RulesLaw g.rules → Proved (spelled g)
spelled_proved g law = record { law = spelled_law g law; decides = spelled_decides g _ characters_decides }

pub spelled_missing : {K : Type 0} (g : spelling.Ghosts K) → RulesLaw g.rules → CanMiss (spelled g)
spelled_missing g law = record { law = spelled_misses g law }

pub digits_proved : Proved digits
digits_proved = spelled_proved digits_impl.ghosts digits_rules_law

pub digits_missing : CanMiss digits
digits_missing = spelled_missing digits_impl.ghosts digits_rules_law

pub digits_spelled_last : EndsAnywhere (ends_spelled digits_rules)
digits_spelled_last = spelled_last digits_rules digits_rules_law

pub decimal_proved : Proved decimal
decimal_proved = spelled_proved decimal_impl.ghosts decimal_rules_law

pub decimal_missing : CanMiss decimal
decimal_missing = spelled_missing decimal_impl.ghosts decimal_rules_law

pub decimal_last : EndsAnywhere (ends_spelled decimal_rules)
decimal_last = spelled_last decimal_rules decimal_rules_law

pub hexadecimal_proved : Proved hexadecimal
hexadecimal_proved = spelled_proved hexadecimal_impl.ghosts hexadecimal_rules_law

pub hexadecimal_missing : CanMiss hexadecimal
hexadecimal_missing = spelled_missing hexadecimal_impl.ghosts hexadecimal_rules_law

pub hexadecimal_last : EndsAnywhere (ends_spelled hexadecimal_rules)
hexadecimal_last = spelled_last hexadecimal_rules hexadecimal_rules_law

pub hex_proved : {N : Type 0} (k : Kind N) → k.radix.below true ≡ 0 → Proved (hex k)
hex_proved k unsigned = record { law = hex_law k.radix k.of k.narrow k.back unsigned; decides = hex_decides k.radix k.of k.narrow k.back unsigned k.test k.decides }

pub hex_missing : {N : Type 0} (k : Kind N) → k.radix.below true ≡ 0 → CanMiss (hex k)
hex_missing k unsigned = record { law = hex_misses k.radix k.of k.narrow k.back unsigned }

pub truth_proved : Proved truth
truth_proved = record { law = truth_law; decides = truth_decides }

pub truth_missing : CanMiss truth
truth_missing = record { law = truth_misses }

pub symbol_proved : Proved symbol
symbol_proved = record { law = symbol_law; decides = symbol_decides }

pub symbol_missing : CanMiss symbol
symbol_missing = record { law = symbol_misses }

pub symbol_last : EndsAnywhere ends_word
symbol_last = word_last

pub defaulted_proved : {P D : Type 0} (value : P) {inside : Shape P} → Proved inside → CanMiss inside → Proved (defaulted {D = D} value inside)
defaulted_proved value {inside = inside} p m = record {
  law = defaulted_law inside.test value p.decides inside.reading inside.written inside.ends p.law m.law;
  decides = defaulted_decides inside.test _ (λ x y. refl) p.decides;
}
