-- For theorems: an integer that was printed in decimal is parsed back.
use Rattle.std.proofs.Common.{◌≡◌, ℕ, ℤ, pos, negsuc, suc, ◌<◌, ◌≤◌, ◌^◌, Bool, true, false, cond, Some, None, [], ◌∷◌, ◌++◌, length, refl, ◌∙◌, ap, ap₂, arith, nat_lt, decimal, inl, inr}
use Rattle.std.proofs.lemmas.Bool.Decides.{nat_tests}
use Rattle.std.proofs.lemmas.Fmt.{decimal_is_IsNumeral, IsAscii-decimal}
use Rattle.std.proofs.lemmas.Str.{IsAscii-append}
use Rattle.std.specs.Char.{is_ascii_digit, is_whitespace}
use Rattle.std.specs.Fmt.{signed_decimal}
use Rattle.std.specs.List.{list_all}
use Rattle.std.specs.Str.{IsAscii}
use Rattle.std.specs.Str.Parse.{digits_value}
use Rattle.irtext_base.specs.Text.{Text, begins}
use Rattle.irtext_base.specs.Reading.{the}
use Rattle.irtext_base.specs.Answers.{Outcome, Read, Missing}
use Rattle.irtext_base.specs.Own.{can_follow, Ends}
use Rattle.irtext_base.specs.Faults.{Unexpected, ADigit}
use Rattle.irtext_base.proofs.Characters.{and_left, front_all, after_all}
use Rattle.irtext_base.proofs.Numbers.{digits_every}
use Rattle.irtext_tokens.specs.Tokens.{is_sign, sign_of, after_sign}
use Rattle.irtext_tokens.specs.Integers.{int_at, sign_at, no_digit_after, signed_integer, numeral_at, ranged, integer_by}
use Rattle.irtext_tokens.proofs.Decimals.{plain}
use Rattle.irtext_syntax.specs.PartLaws.{is_closer}
use Rattle.irtext_syntax.specs.Numbers.{fits}
use Rattle.irtext_syntax.specs.PartSteps.{ascii_from}

digit_not_end : (c : ℕ) → can_follow c ≡ true → is_ascii_digit c ≡ false
digit_not_end c e = grind (arith, nat_tests)

-- a text that can follow a value's text does not begin with a digit
pub follows_digits : (rest : Text) → begins can_follow rest ≡ true → begins is_ascii_digit rest ≡ false
follows_digits [] e = refl
follows_digits (c ∷ rest) e = digit_not_end c e

-- a text before which a value's text can end does not begin with a digit
pub no_digit : (rest : Text) → Ends rest → begins is_ascii_digit rest ≡ false
no_digit [] e = refl
no_digit (c ∷ rest) (inl e) = absurd (cc)
no_digit (c ∷ rest) (inr e) = digit_not_end c e

closer_no_sign : (c : ℕ) → is_closer c ≡ true → is_sign c ≡ false
closer_no_sign c e = grind (arith, nat_tests)

pub closer_no_digit : (c : ℕ) → is_closer c ≡ true → is_ascii_digit c ≡ false
closer_no_digit c e = grind (arith, nat_tests)

module _ (below : Bool → ℕ) where
  -- where neither a sign nor a digit comes, an integer is missing
  no_int : (c : ℕ) (rest : Text) → is_sign c ≡ false → is_ascii_digit c ≡ false → int_at below (c ∷ rest) ≡ Missing (Unexpected (Some c) ADigit)
  unfolding int_at
  no_int c rest s d =
      let first : sign_at (c ∷ rest) ≡ Missing (Unexpected (Some c) ADigit) =
      ap₂ (λ x y. let o : Outcome Text = cond (begins is_ascii_digit y) (Read x x y) (no_digit_after x y) in o) (ap (λ b. let t : Text = cond b (c ∷ []) [] in t) s) (ap (λ b. let t : Text = cond b rest (c ∷ rest) in t) s)
      ∙ ap (λ q. let o : Outcome Text = cond q (Read [] [] (c ∷ rest)) (Missing (Unexpected (Some c) ADigit)) in o) d in
      ap (numeral_at is_ascii_digit (signed_integer below)) first

  -- so it is where a closing character comes
  pub closer_no_int : (c : ℕ) (rest : Text) → is_closer c ≡ true → int_at below (c ∷ rest) ≡ Missing (Unexpected (Some c) ADigit)
  closer_no_int c rest e = no_int c rest (closer_no_sign c e) (closer_no_digit c e)

  -- the digits of a magnitude that fits are parsed after a sign, if no digit comes after them
  digits-int : (sign ds rest : Text) (n : ℕ) (z : ℤ) → sign_of (sign ++ (ds ++ rest)) ≡ sign → after_sign (sign ++ (ds ++ rest)) ≡ ds ++ rest → 0 < length ds → list_all is_ascii_digit ds ≡ true → digits_value 10 ds ≡ n
      → nat_lt n (below (begins (the 45) sign)) ≡ true → integer_by (begins (the 45) sign) n ≡ z → begins is_ascii_digit rest ≡ false → int_at below (sign ++ (ds ++ rest)) ≡ Read z (sign ++ ds) rest
  unfolding int_at
  digits-int sign [] rest n z s b some all v small is stop = absurd (omega (arith, some))
  digits-int sign (c ∷ ds) rest n z s b some all v small is stop =
      let t = (c ∷ ds) ++ rest in
      let d = and_left (is_ascii_digit c) (list_all is_ascii_digit ds) all in
      let first : sign_at (sign ++ t) ≡ Read sign sign t =
      ap₂ (λ x y. let o : Outcome Text = cond (begins is_ascii_digit y) (Read x x y) (no_digit_after x y) in o) s b ∙ ap (λ q. let o : Outcome Text = cond q (Read sign sign t) (no_digit_after sign t) in o) d in
      ap (numeral_at is_ascii_digit (signed_integer below)) first
      ∙ (ap₂ (λ f a. ranged (sign ++ f) a (signed_integer below sign f)) (front_all is_ascii_digit (c ∷ ds) rest all stop) (after_all is_ascii_digit (c ∷ ds) rest all stop)
      ∙ (ap (λ m. ranged (sign ++ (c ∷ ds)) rest (cond (nat_lt m (below (begins (the 45) sign))) (Some (integer_by (begins (the 45) sign) m)) None)) v
      ∙ (ap (λ q. ranged (sign ++ (c ∷ ds)) rest (cond q (Some (integer_by (begins (the 45) sign) n)) None)) small ∙ ap (λ y. ranged (sign ++ (c ∷ ds)) rest (Some y)) is)))

  module _ (narrow : (negative : Bool) → below negative ≤ 2 ^ 64) where
    small : (n : ℕ) (b : Bool) → nat_lt n (below b) ≡ true → n < 2 ^ 64
    small n b e = let l = narrow b in grind (arith, nat_tests, l)

    -- an integer that fits is parsed back if no digit comes after it
    pub int-here : (z : ℤ) (rest : Text) → fits below z ≡ true → begins is_ascii_digit rest ≡ false → int_at below (signed_decimal z ++ rest) ≡ Read z (signed_decimal z) rest
    int-here (pos n) rest e stop =
        let k = decimal_is_IsNumeral n (small n false e) in
        let p = plain (decimal n) rest k.0.0 (digits_every (decimal n) k.0.1) in
        digits-int [] (decimal n) rest n (pos n) p.sign p.following k.0.0 (digits_every (decimal n) k.0.1) k.1 e refl stop
    int-here (negsuc n) rest e stop =
        let k = decimal_is_IsNumeral (suc n) (small (suc n) true e) in
        digits-int (45 ∷ []) (decimal (suc n)) rest (suc n) (negsuc n) refl refl k.0.0 (digits_every (decimal (suc n)) k.0.1) k.1 e refl stop

    -- an integer's text does not begin with white space
    pub int_no_space : (z : ℤ) (rest : Text) → fits below z ≡ true → begins is_whitespace (signed_decimal z ++ rest) ≡ false
    int_no_space (pos n) rest e = let k = decimal_is_IsNumeral n (small n false e) in (plain (decimal n) rest k.0.0 (digits_every (decimal n) k.0.1)).space
    int_no_space (negsuc n) rest e = refl

    -- an integer's text is ASCII
    pub ascii-int : (z : ℤ) → fits below z ≡ true → IsAscii (signed_decimal z)
    ascii-int (pos n) e = IsAscii-decimal n (small n false e)
    ascii-int (negsuc n) e = IsAscii-append (45 ∷ []) (decimal (suc n)) (ascii_from (45 ∷ []) refl) (IsAscii-decimal (suc n) (small (suc n) true e))
