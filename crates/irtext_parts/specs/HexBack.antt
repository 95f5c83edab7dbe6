-- For theorems: a number that was printed in hexadecimal digits is parsed back.
use Rattle.std.proofs.Common.{◌≡◌, ℕ, pos, ◌<◌, ◌≤◌, ◌^◌, Bool, true, false, cond, Option, Some, None, [], ◌∷◌, ◌++◌, length, refl, ◌∙◌, ap, ap₂, arith, nat_lt, codes, append_assoc, inl, inr}
use Rattle.std.proofs.lemmas.Bool.Decides.{nat_tests}
use Rattle.std.proofs.lemmas.Fmt.{digits_is_IsNumeral}
use Rattle.std.proofs.lemmas.Str.{IsAscii-append}
use Rattle.std.specs.Char.{is_ascii, is_ascii_hexdigit, digit_value}
use Rattle.std.specs.Fmt.{digits}
use Rattle.std.specs.List.{list_all}
use Rattle.std.specs.Str.{IsAscii}
use Rattle.std.specs.Str.Parse.{IsNumeral, AllDigits, digits_value}
use Rattle.irtext_base.specs.Text.{Text, begins, front, after}
use Rattle.irtext_base.specs.Answers.{Outcome, Read, Missing, Bad, prefixed}
use Rattle.irtext_base.specs.Faults.{Unexpected, AHexadecimalDigit}
use Rattle.irtext_base.specs.Stream.{first_of}
use Rattle.irtext_base.specs.Own.{can_follow, Ends, missing, verdict}
use Rattle.irtext_base.proofs.Along.{front_after}
use Rattle.irtext_base.proofs.Characters.{and_left, and_right, front_all, after_all}
use Rattle.irtext_base.proofs.Sincere.{Of, of_bad, of_either, of_followed, of_missing, of_read}
use Rattle.irtext_tokens.specs.Integers.{hex_int_at, hexadecimal_mark_at, before_hexadecimal, hexadecimal_integer, numeral_at, ranged, integer_by}
use Rattle.irtext_tokens.specs.Tokens.{text_at}
use Rattle.irtext_tokens.proofs.SincereTokens.{of_text, of_ranged}
use Rattle.irtext_syntax.specs.CloserTests.{both}
use Rattle.irtext_syntax.specs.PartLaws.{is_closer}
use Rattle.irtext_syntax.specs.PartSteps.{ascii_from, then_missing, word_misses}
use Rattle.irtext_parts.specs.HexTexts.{hex_text}

hexdigit : (c : ℕ) → digit_value c < 16 → is_ascii_hexdigit c ≡ true
hexdigit c e = grind (arith, nat_tests)

hexdigit_not_end : (c : ℕ) → can_follow c ≡ true → is_ascii_hexdigit c ≡ false
hexdigit_not_end c e = grind (arith, nat_tests)

-- a text that can follow a value's text does not begin with such a digit
pub follows_hex : (rest : Text) → begins can_follow rest ≡ true → begins is_ascii_hexdigit rest ≡ false
follows_hex [] e = refl
follows_hex (c ∷ rest) e = hexdigit_not_end c e

pub no_hex : (rest : Text) → Ends rest → begins is_ascii_hexdigit rest ≡ false
no_hex [] e = refl
no_hex (c ∷ rest) (inl e) = absurd (cc)
no_hex (c ∷ rest) (inr e) = hexdigit_not_end c e

-- digits of this base are hexadecimal digits
every : (ds : Text) → AllDigits 16 ds → list_all is_ascii_hexdigit ds ≡ true
every [] h = refl
every (c ∷ ds) h = both (is_ascii_hexdigit c) _ (hexdigit c h.0) (every ds h.1)

hexdigit_ascii : (c : ℕ) → is_ascii_hexdigit c ≡ true → is_ascii c ≡ true
hexdigit_ascii c e = grind (arith, nat_tests)

every_ascii : (ds : Text) → list_all is_ascii_hexdigit ds ≡ true → list_all is_ascii ds ≡ true
every_ascii [] e = refl
every_ascii (c ∷ ds) e = both (is_ascii c) _ (hexdigit_ascii c (and_left (is_ascii_hexdigit c) (list_all is_ascii_hexdigit ds) e)) (every_ascii ds (and_right (is_ascii_hexdigit c) (list_all is_ascii_hexdigit ds) e))

module _ (n : ℕ) (small : n < 2 ^ 64) where
  numeral : IsNumeral 16 (digits 16 true n) × (digits_value 16 (digits 16 true n) ≡ n)
  numeral = digits_is_IsNumeral 16 true (omega arith) (omega arith) n (omega arith)

  pub ascii-hex : IsAscii (hex_text n)
  ascii-hex = IsAscii-append (codes "0x") (digits 16 true n) (ascii_from (codes "0x") refl) (ascii_from (digits 16 true n) (every_ascii (digits 16 true n) (every (digits 16 true n) numeral.0.1)))

module _ (below : Bool → ℕ) where
  -- `0x` and digits are parsed, if no digit comes after them
  digits-hex : (ds rest : Text) (n : ℕ) → 0 < length ds → list_all is_ascii_hexdigit ds ≡ true → digits_value 16 ds ≡ n → nat_lt n (below false) ≡ true → begins is_ascii_hexdigit rest ≡ false
      → hex_int_at below (codes "0x" ++ (ds ++ rest)) ≡ Read (pos n) (codes "0x" ++ ds) rest
  unfolding hex_int_at
  digits-hex [] rest n some all v small stop = absurd (omega (arith, some))
  digits-hex (c ∷ ds) rest n some all v small stop =
      let t = (c ∷ ds) ++ rest in
      let mark : Text = codes "0x" in
      let first : hexadecimal_mark_at (mark ++ t) ≡ Read tt mark t =
      ap (λ b. prefixed mark (let o : Outcome Unit = cond b (Read tt [] t) (Missing (Unexpected (first_of t) AHexadecimalDigit)) in o)) (and_left (is_ascii_hexdigit c) (list_all is_ascii_hexdigit ds) all) in
      ap (numeral_at is_ascii_hexdigit (hexadecimal_integer below)) first
      ∙ (ap₂ (λ f a. ranged (mark ++ f) a (hexadecimal_integer below tt f)) (front_all is_ascii_hexdigit (c ∷ ds) rest all stop) (after_all is_ascii_hexdigit (c ∷ ds) rest all stop)
      ∙ (ap (λ m. ranged (mark ++ (c ∷ ds)) rest (cond (nat_lt m (below false)) (Some (integer_by false m)) None)) v
      ∙ ap (λ q. ranged (mark ++ (c ∷ ds)) rest (cond q (Some (integer_by false n)) None)) small))

  -- a number that fits is parsed back if no digit comes after it
  pub hex-here : (narrow : below false ≤ 2 ^ 64) (n : ℕ) (rest : Text) → nat_lt n (below false) ≡ true → begins is_ascii_hexdigit rest ≡ false → hex_int_at below (hex_text n ++ rest) ≡ Read (pos n) (hex_text n) rest
  hex-here narrow n rest fits stop =
      let k = numeral n (below_small n fits narrow) in
      digits-hex (digits 16 true n) rest n k.0.0 (every (digits 16 true n) k.0.1) k.1 fits stop
    where
      below_small : (n : ℕ) → nat_lt n (below false) ≡ true → below false ≤ 2 ^ 64 → n < 2 ^ 64
      below_small n e l = grind (arith, nat_tests, l)

  of_numeral : {L X : Type 0} (digit : ℕ → Bool) (make : L → Text → Option X) (text : Text) (o : Outcome L) → Of text o → Of text (numeral_at digit make o)
  of_numeral digit make text (Read lead taken left) h =
      of_ranged text (taken ++ front digit left) (after digit left) (make lead (front digit left)) (append_assoc taken (front digit left) (after digit left) ∙ (ap (λ z. taken ++ z) (front_after digit left) ∙ h.says))
  of_numeral digit make text (Missing cause) h = of_missing text cause h.says
  of_numeral digit make text (Bad cause upto) h = of_bad text cause upto h.says.1.0 h.says.0 h.says.1.1

  pub of_hex : (text : Text) → Of text (hex_int_at below text)
  unfolding hex_int_at
  of_hex text = of_numeral is_ascii_hexdigit (hexadecimal_integer below) text (hexadecimal_mark_at text)
      (of_followed text _ _ (of_text (codes "0x") text) (λ _ t. of_either t (begins is_ascii_hexdigit t) _ _ (of_read t tt [] t refl) (of_missing t _ refl)))

  numeral_missing : {L X : Type 0} (digit : ℕ → Bool) (make : L → Text → Option X) (o : Outcome L) → verdict o ≡ missing → verdict (numeral_at digit make o) ≡ missing
  numeral_missing digit make (Read lead taken left) e = absurd (cc)
  numeral_missing digit make (Missing cause) e = refl
  numeral_missing digit make (Bad cause upto) e = absurd (cc)

  -- it is missing where a closing character comes
  pub closer_no_hex : (c : ℕ) (rest : Text) → is_closer c ≡ true → verdict (hex_int_at below (c ∷ rest)) ≡ missing
  unfolding hex_int_at
  closer_no_hex c rest e = numeral_missing is_ascii_hexdigit (hexadecimal_integer below) (hexadecimal_mark_at (c ∷ rest)) (then_missing (text_at (codes "0x") (c ∷ rest)) (λ _ t. before_hexadecimal t) (word_misses (codes "0x") refl c rest e))
