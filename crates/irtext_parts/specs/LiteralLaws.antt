-- The laws of numbers and bytes as they are spelled.
use Rattle.std.proofs.Common.{◌≡◌, ℕ, ◌<◌, Bool, true, false, ◌&&◌, refl, arith}
use Rattle.std.proofs.lemmas.Bool.Decides.{nat_tests}
use Rattle.std.specs.Prelude.{not}
use Rattle.irtext_base.specs.Text.{in_word}
use Rattle.irtext_base.specs.Own.{can_follow}
use Rattle.irtext_base.proofs.Characters.{ascii, not_both, is_false, in_word_small, follow_no_word}
use Rattle.irtext_parts.specs.Spellings.{RulesLaw}
use Rattle.irtext_parts.specs.Literals.{begins_number, in_decimal, digits_rules, hexadecimal_rules, decimal_rules}

number_small : (c : ℕ) → begins_number c ≡ true → c < 128
number_small c e = grind (arith, nat_tests)

decimal_small : (c : ℕ) → in_decimal c ≡ true → c < 128
decimal_small c e = grind (arith, nat_tests)

-- characters that a test excludes do not follow a value's text, if it is computed for ASCII
excluded : (p : ℕ → Bool) → ((c : ℕ) → p c ≡ true → c < 128) → ((c : ℕ) → c < 128 → not (p c && can_follow c) ≡ true) → (c : ℕ) → can_follow c ≡ true → p c ≡ false
excluded p small apart c e = is_false (p c) (λ f. not_both (p c) (can_follow c) (apart c (small c f)) f e)

pub digits_rules_law : RulesLaw digits_rules
digits_rules_law = record {
  within = λ c e. e;
  small = number_small;
  apart = excluded begins_number number_small (ascii (λ c. not (begins_number c && can_follow c)) refl);
}

zero_in_word : (c : ℕ) → hexadecimal_rules.first c ≡ true → in_word c ≡ true
zero_in_word c e = grind (arith, nat_tests)

pub hexadecimal_rules_law : RulesLaw hexadecimal_rules
hexadecimal_rules_law = record {
  within = zero_in_word;
  small = in_word_small;
  apart = follow_no_word;
}

number_in_decimal : (c : ℕ) → begins_number c ≡ true → in_decimal c ≡ true
number_in_decimal c e = grind (arith, nat_tests)

pub decimal_rules_law : RulesLaw decimal_rules
decimal_rules_law = record {
  within = number_in_decimal;
  small = decimal_small;
  apart = excluded in_decimal decimal_small (ascii (λ c. not (in_decimal c && can_follow c)) refl);
}
