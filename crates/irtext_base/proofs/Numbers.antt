-- A number that is written in decimal digits is parsed again.
use Rattle.std.specs.Prelude.{◌≡◌, ℕ, ◌<◌, ◌^◌, Bool, true, false, not, ◌==◌, ◌&&◌, ◌||◌, [], ◌∷◌, ◌++◌, length, refl, decimal}
use Rattle.std.proofs.Common.{inl, sym, ◌∙◌, ap, true≢false, arith}
use Rattle.std.proofs.lemmas.Bool.Decides.{nat_tests}
use Rattle.std.specs.Char.{is_ascii_digit, digit_value}
use Rattle.std.specs.Str.Parse.{AllDigits, digits_value}
use Rattle.std.proofs.lemmas.Fmt.{decimal_is_IsNumeral}
use Rattle.std.specs.List.{list_all}
use Rattle.irtext_base.specs.Text.{Text, begins, in_word}
use Rattle.irtext_base.specs.Reading.{number}
use Rattle.irtext_base.specs.Own.{Ends}
use Rattle.irtext_base.proofs.Characters.{front_all, after_all, ends_word, is_false, ascii, and_left, implied}

pub same_character : (c d : ℕ) → (c == d) ≡ true → c ≡ d
same_character c d e = grind (arith, nat_tests)

pub digit_ascii : (c : ℕ) → digit_value c < 10 → is_ascii_digit c ≡ true
digit_ascii c e = grind (arith, nat_tests)

pub digits_every : (s : Text) → AllDigits 10 s → list_all is_ascii_digit s ≡ true
digits_every [] e = refl
digits_every (c ∷ s) e = and_both (is_ascii_digit c) (list_all is_ascii_digit s) (digit_ascii c e.0) (digits_every s e.1)
  where
    and_both : (a b : Bool) → a ≡ true → b ≡ true → (a && b) ≡ true
    and_both true b e f = f
    and_both false b e f = absurd (true≢false (sym e))

pub digit_small : (c : ℕ) → is_ascii_digit c ≡ true → c < 128
digit_small c e = grind (arith, nat_tests)

pub digit_in_word : (c : ℕ) → is_ascii_digit c ≡ true → in_word c ≡ true
digit_in_word c e = implied (is_ascii_digit c) (in_word c) (ascii (λ c. not (is_ascii_digit c) || in_word c) refl c (digit_small c e)) e

pub ends_digits : (f : Text) → Ends f → begins is_ascii_digit f ≡ false
ends_digits [] h = refl
ends_digits (c ∷ f) h = is_false (is_ascii_digit c) (λ e. true≢false (sym (digit_in_word c e) ∙ ends_word (c ∷ f) h))

pub number_of : (s f : Text) (n : ℕ) → 0 < length s → list_all is_ascii_digit s ≡ true → digits_value 10 s ≡ n → n < 2 ^ 64 → Ends f → number n (s ++ f) f
number_of [] f n some e v small h = absurd (omega arith)
number_of (c ∷ s) f n some e v small h = inl (
  is_false (c == 43) (λ q. true≢false (sym (and_left (is_ascii_digit c) (list_all is_ascii_digit s) e) ∙ ap is_ascii_digit (same_character c 43 q))),
  (
    and_left (is_ascii_digit c) (list_all is_ascii_digit s) e,
    sym v ∙ ap (digits_value 10) (sym (front_all is_ascii_digit (c ∷ s) f e (ends_digits f h))),
    small,
    sym (after_all is_ascii_digit (c ∷ s) f e (ends_digits f h)),
  ),
)

pub number_here : (n : ℕ) (f : Text) → n < 2 ^ 64 → Ends f → number n (decimal n ++ f) f
number_here n f small h = let k = decimal_is_IsNumeral n small in number_of (decimal n) f n k.0.0 (digits_every (decimal n) k.0.1) k.1 small h
