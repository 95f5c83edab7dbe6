-- The printed text of an integer is parsed back.
use Rattle.std.proofs.Common.{◌≡◌, ℕ, suc, ◌<◌, ◌≤◌, ◌^◌, true, false, cond, Some, None, [], ◌∷◌, ◌++◌, length, refl, ◌∙◌, ap, ap₂, arith}
use Rattle.std.proofs.lemmas.Bool.Decides.{nat_tests}
use Rattle.std.proofs.lemmas.Fmt.{decimal_is_IsNumeral}
use Rattle.std.specs.Prelude.{ℤ, pos, negsuc, nat_lt, decimal, FitsSigned}
use Rattle.std.specs.Char.{is_ascii_digit, is_whitespace}
use Rattle.std.specs.Fmt.{signed_decimal}
use Rattle.std.specs.Int.{w32}
use Rattle.std.specs.List.{list_all}
use Rattle.std.specs.Str.Parse.{digits_value}
use Rattle.irtext_base.specs.Text.{Text, begins, front, after}
use Rattle.irtext_base.specs.Answers.{Outcome, Read}
use Rattle.irtext_base.proofs.Characters.{and_left, front_all, after_all}
use Rattle.irtext_base.proofs.Numbers.{digits_every}
use Rattle.irtext_tokens.proofs.Decimals.{fitting-small, Plain, plain}
use Rattle.irtext_tokens.specs.Tokens.{sign_of, after_sign, fitting, value_of, integer_of, integered, no_integer, integer_at}

-- ---- an integer
-- an integer after its sign
abbrev integer_from : Text → Text → Outcome ℤ
integer_from sign t = cond (begins is_ascii_digit t) (integered sign (front is_ascii_digit t) (after is_ascii_digit t) (integer_of sign (value_of (front is_ascii_digit t)))) (no_integer sign t)

-- an integer's sign, and what follows it
integer-from : (text : Text) → integer_at text ≡ integer_from (sign_of text) (after_sign text)
unfolding integer_at
integer-from text = refl

-- digits of a number that fits are parsed back after a sign, if no digit follows
digits-integer : (sign ds rest : Text) (n : ℕ) (z : ℤ) → 0 < length ds → list_all is_ascii_digit ds ≡ true → digits_value 10 ds ≡ n → n < 2 ^ 64 → integer_of sign (Some n) ≡ Some z
    → begins is_ascii_digit rest ≡ false → integer_from sign (ds ++ rest) ≡ Read z (sign ++ ds) rest
digits-integer sign [] rest n z some all v small is stop = absurd (omega (arith, some))
digits-integer sign (c ∷ s) rest n z some all v small is stop =
    let t = (c ∷ s) ++ rest in
    ap (λ b. cond b (integered sign (front is_ascii_digit t) (after is_ascii_digit t) (integer_of sign (value_of (front is_ascii_digit t)))) (no_integer sign t)) (and_left (is_ascii_digit c) (list_all is_ascii_digit s) all)
    ∙ (ap₂ (λ f a. integered sign f a (integer_of sign (value_of f))) (front_all is_ascii_digit (c ∷ s) rest all stop) (after_all is_ascii_digit (c ∷ s) rest all stop)
    ∙ ap (integered sign (c ∷ s) rest) (ap (integer_of sign) (ap fitting v ∙ fitting-small n small) ∙ is))

-- a text that begins with a number
plain_decimal : (n : ℕ) (rest : Text) → n < 2 ^ 64 → Plain (decimal n ++ rest)
plain_decimal n rest small = let k = decimal_is_IsNumeral n small in plain (decimal n) rest k.0.0 (digits_every (decimal n) k.0.1)

not_below : (m n : ℕ) → n ≤ m → nat_lt m n ≡ false
not_below m n h = grind (arith, nat_tests)

-- an integer's text is parsed back where no digit follows
pub integer-here : (z : ℤ) (rest : Text) → FitsSigned w32 z → begins is_ascii_digit rest ≡ false → integer_at (signed_decimal z ++ rest) ≡ Read z (signed_decimal z) rest
integer-here (pos n) rest fits stop =
    let small : n < 2 ^ 64 = omega arith in
    let k = decimal_is_IsNumeral n small in
    let p = plain_decimal n rest small in
    let low : nat_lt 2147483647 n ≡ false = not_below 2147483647 n (omega arith) in
    let is : integer_of [] (Some n) ≡ Some (pos n) = ap (λ b. cond b None (Some (pos n))) low in
    integer-from (decimal n ++ rest) ∙ (ap₂ integer_from p.sign p.following ∙ digits-integer [] (decimal n) rest n (pos n) k.0.0 (digits_every (decimal n) k.0.1) k.1 small is stop)
integer-here (negsuc n) rest fits stop =
    let small : suc n < 2 ^ 64 = omega arith in
    let k = decimal_is_IsNumeral (suc n) small in
    let low : nat_lt 2147483648 (suc n) ≡ false = not_below 2147483648 (suc n) (omega arith) in
    let is : integer_of (45 ∷ []) (Some (suc n)) ≡ Some (negsuc n) = ap (λ b. cond b None (Some (negsuc n))) low in
    integer-from (45 ∷ (decimal (suc n) ++ rest)) ∙ digits-integer (45 ∷ []) (decimal (suc n)) rest (suc n) (negsuc n) k.0.0 (digits_every (decimal (suc n)) k.0.1) k.1 small is stop

-- an integer's text begins with no white space
pub no_space : (z : ℤ) (rest : Text) → FitsSigned w32 z → begins is_whitespace (signed_decimal z ++ rest) ≡ false
no_space (pos n) rest fits = (plain_decimal n rest (omega arith)).space
no_space (negsuc n) rest fits = refl
