-- Decimal digits at the beginning of a text.
use Rattle.std.proofs.Common.{◌≡◌, ℕ, ◌<◌, ◌^◌, true, false, cond, Some, [], ◌∷◌, ◌++◌, length, refl, ap, arith}
use Rattle.std.proofs.lemmas.Bool.Decides.{nat_tests}
use Rattle.std.specs.Prelude.{nat_lt}
use Rattle.std.specs.Char.{is_ascii_digit, is_whitespace}
use Rattle.std.specs.List.{list_all}
use Rattle.irtext_base.specs.Text.{Text, begins}
use Rattle.irtext_base.proofs.Characters.{and_left, word_no_space}
use Rattle.irtext_base.proofs.Numbers.{digit_in_word}
use Rattle.irtext_tokens.specs.Tokens.{is_sign, sign_of, after_sign, fitting}

-- a number below 2 ^ 64 fits
pub fitting-small : (n : ℕ) → n < 2 ^ 64 → fitting n ≡ Some n
fitting-small n small = let e : nat_lt n (2 ^ 64) ≡ true = grind (arith, nat_tests) in rw e refl

no_sign : (c : ℕ) → is_ascii_digit c ≡ true → is_sign c ≡ false
no_sign c e = grind (arith, nat_tests)

-- the text begins with no sign and no white space
pub record Plain (text : Text) : Type 0 where
  pub sign : sign_of text ≡ []
  pub following : after_sign text ≡ text
  pub space : begins is_whitespace text ≡ false

-- a text that begins with digits
pub plain : (s rest : Text) → 0 < length s → list_all is_ascii_digit s ≡ true → Plain (s ++ rest)
plain [] rest some all = absurd (omega (arith, some))
plain (c ∷ s) rest some all =
    let digit = and_left (is_ascii_digit c) (list_all is_ascii_digit s) all in
    record {
      sign = ap (λ b. cond b (c ∷ []) []) (no_sign c digit);
      following = ap (λ b. cond b (s ++ rest) (c ∷ (s ++ rest))) (no_sign c digit);
      space = word_no_space c (digit_in_word c digit);
    }
