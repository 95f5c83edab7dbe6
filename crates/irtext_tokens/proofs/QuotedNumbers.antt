-- The numbers that hexadecimal digits write, and the characters of numbers.
use Rattle.std.proofs.Common.{◌≡◌, ℕ, ◌^◌, true, false, cond, ltb, Some, None, [], ◌++◌, codes, refl, sym, ◌∙◌, ap, arith}
use Rattle.std.proofs.lemmas.Bool.Decides.{nat_tests}
use Rattle.std.specs.Str.Parse.{digits_value}
use lib.Utf8.{scalar}
use Rattle.irtext_base.specs.Text.{Text}
use Rattle.irtext_base.specs.Faults.{BadUnicodeEscape}
use Rattle.irtext_base.specs.Answers.{Outcome, Read, Bad}
use Rattle.irtext_tokens.specs.QuotedTexts.{character_of, named}
use Rattle.irtext_tokens.specs.Digits.{fitting, value_in}

-- a number that doesn't fit is no character's
no_scalar : (n : ℕ) → ltb n (2 ^ 64) ≡ false → scalar n ≡ false
no_scalar n e = grind (arith, nat_tests)

character_of-fitting : (n : ℕ) → character_of (fitting n) ≡ cond (scalar n) (Some n) None
character_of-fitting n =
    elim (ltb n (2 ^ 64)) as (λ b. ltb n (2 ^ 64) ≡ b → character_of (cond b (Some n) None) ≡ cond (scalar n) (Some n) None) [
      | true ↦ (λ e. refl)
      | false ↦ (λ e. rw (no_scalar n e) refl)
    ] refl

-- digits that name a character
pub named_some : (digits text : Text) (c : ℕ) → Some c ≡ character_of (value_in 16 digits) → named digits text ≡ Read c (codes "\\u{" ++ (digits ++ codes "}")) text
named_some digits text c e =
    let n = digits_value 16 digits in
    let taken : Text = codes "\\u{" ++ (digits ++ codes "}") in
    elim (scalar n) as (λ b. Some c ≡ cond b (Some n) None → cond b (Read n taken text) (Bad (BadUnicodeEscape digits) []) ≡ Read c taken text) [
      | true ↦ (λ q. let s : n ≡ c = cc in ap (λ z. let o : Outcome ℕ = Read z taken text in o) s)
      | false ↦ (λ q. absurd (cc))
    ] (e ∙ character_of-fitting n)

-- digits that name none
pub named_none : (digits text : Text) → character_of (value_in 16 digits) ≡ None → named digits text ≡ Bad (BadUnicodeEscape digits) []
named_none digits text e =
    let n = digits_value 16 digits in
    let taken : Text = codes "\\u{" ++ (digits ++ codes "}") in
    elim (scalar n) as (λ b. cond b (Some n) None ≡ None → cond b (Read n taken text) (Bad (BadUnicodeEscape digits) []) ≡ Bad (BadUnicodeEscape digits) []) [
      | true ↦ (λ q. absurd (cc))
      | false ↦ (λ q. refl)
    ] (sym (character_of-fitting n) ∙ e)
