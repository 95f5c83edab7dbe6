-- The law of numbers of a range, as parts of a text.
use Rattle.std.proofs.Common.{◌≡◌, ◌∙◌, ◌<◌, ◌^◌, ℕ, true, false, cond, Some, [], ◌∷◌, ◌++◌, length, refl, sym, ap, ap₂, arith, decimal, nat_lt}
use Rattle.std.proofs.lemmas.Bool.Decides.{nat_tests}
use Rattle.std.proofs.lemmas.Fmt.{decimal_is_IsNumeral, IsAscii-decimal}
use Rattle.std.proofs.lemmas.Str.{encodes-IsAscii}
use Rattle.std.specs.Char.{is_ascii_digit, is_whitespace}
use Rattle.std.specs.Cmp.{unsigned_Decides}
use Rattle.std.specs.List.{list_all}
use Rattle.std.specs.Prelude.{◌↔◌, IsTrue, not, unwrap_or, nat_eq}
use Rattle.std.specs.Str.{encode_utf8_all}
use Rattle.std.specs.Str.Parse.{digits_value}
use Rattle.irtext_base.specs.Text.{Text, begins, front, after}
use Rattle.irtext_base.specs.Stream.{first_of}
use Rattle.irtext_base.specs.Faults.{ADigit, Unexpected}
use Rattle.irtext_base.specs.Answers.{Read, Missing}
use Rattle.irtext_base.specs.Own.{verdict, can_follow}
use Rattle.irtext_base.proofs.Along.{front_after}
use Rattle.irtext_base.proofs.Characters.{and_left, front_all, after_all}
use Rattle.irtext_base.proofs.Numbers.{digits_every}
use Rattle.irtext_base.proofs.Scalars.{scalars_ascii}
use Rattle.irtext_base.proofs.Sincere.{of_either, of_missing, sincere_of}
use Rattle.irtext_tokens.specs.Integers.{ranged}
use Rattle.irtext_tokens.specs.Tokens.{fitting, value_of}
use Rattle.irtext_tokens.proofs.Decimals.{fitting-small, plain}
use Rattle.irtext_tokens.proofs.SincereTokens.{of_ranged}
use Rattle.irtext_syntax.specs.IntegersBack.{follows_digits, closer_no_digit}
use Rattle.irtext_syntax.specs.Numbers.{ends_digits}
use Rattle.irtext_syntax.specs.PartLaws.{PartLaw, MissesClosers}
use Rattle.irtext_syntax.specs.PartSteps.{not_true}
use Rattle.irtext_syntax.specs.RangeOf.{ranged_of, ranged_if, ranged_at, ranged_found}
use Rattle.irtext_syntax.specs.Ranges.{is_between}
use Rattle.irtext_syntax.specs.ReadHere.{read_here}
use Rattle.irtext_syntax.specs.declared.range.Range as range
use Rattle.irtext_syntax.specs.declared.range.Ranged.{Ranged}

at_most : (low high n : ℕ) → is_between low high n ≡ true → nat_lt high (2 ^ 64) ≡ true → n < 2 ^ 64
at_most low high n e f = grind (arith, nat_tests)

module _ {R : Type 0} (g : range.Ghosts R) where
  small : (n : Ranged R g) → n.value < 2 ^ 64
  small n = at_most g.bounds.low g.bounds.high n.value n.in_range g.bounds.fits

  -- the digits of a number are parsed if no digit comes after them
  digits-here : (ds rest : Text) (n : Ranged R g) → 0 < length ds → list_all is_ascii_digit ds ≡ true → digits_value 10 ds ≡ n.value → begins is_ascii_digit rest ≡ false → ranged_at g (ds ++ rest) ≡ Read n ds rest
  digits-here [] rest n some all v stop = absurd (omega (arith, some))
  digits-here (c ∷ s) rest n some all v stop =
      let t = (c ∷ s) ++ rest in
      ap (λ b. cond b (ranged (front is_ascii_digit t) (after is_ascii_digit t) (ranged_if g (value_of (front is_ascii_digit t)))) (Missing (Unexpected (first_of t) ADigit))) (and_left (is_ascii_digit c) (list_all is_ascii_digit s) all)
      ∙ (ap₂ (λ f a. ranged f a (ranged_if g (value_of f))) (front_all is_ascii_digit (c ∷ s) rest all stop) (after_all is_ascii_digit (c ∷ s) rest all stop)
      ∙ (ap (λ o. ranged (c ∷ s) rest (ranged_if g o)) (ap fitting v ∙ fitting-small n.value (small n))
      ∙ ap (ranged (c ∷ s) rest) (ranged_found g n)))

  ranged-here : (n : Ranged R g) (rest : Text) → begins is_ascii_digit rest ≡ false → ranged_at g (decimal n.value ++ rest) ≡ Read n (decimal n.value) rest
  ranged-here n rest stop =
      let k = decimal_is_IsNumeral n.value (small n) in
      digits-here (decimal n.value) rest n k.0.0 (digits_every (decimal n.value) k.0.1) k.1 stop

  ranged_no_space : (n : Ranged R g) (rest : Text) → begins is_whitespace (decimal n.value ++ rest) ≡ false
  ranged_no_space n rest = let k = decimal_is_IsNumeral n.value (small n) in (plain (decimal n.value) rest k.0.0 (digits_every (decimal n.value) k.0.1)).space

  pub ranged_law : PartLaw (ranged_at g) (λ n. decimal n.value) ends_digits
  ranged_law = record {
    back = λ n rest e. read_here (ranged_at g) n (decimal n.value ++ rest) (decimal n.value) rest (ranged_no_space n rest) (ranged-here n rest (not_true (begins is_ascii_digit rest) e));
    closed = λ rest e. ap not (follows_digits rest (and_left (begins can_follow rest) _ e));
    scalars = λ n. scalars_ascii (decimal n.value) (IsAscii-decimal n.value (small n));
    sincere = sincere_of (ranged_at g) (λ text. of_either text (begins is_ascii_digit text) _ _ (of_ranged text (front is_ascii_digit text) (after is_ascii_digit text) (ranged_if g (value_of (front is_ascii_digit text))) (front_after is_ascii_digit text)) (of_missing text _ refl));
  }

  -- the bytes of a number's text are its characters
  pub encodes-ranged : (n : Ranged R g) → encode_utf8_all (decimal n.value) ≡ decimal n.value
  encodes-ranged n = encodes-IsAscii (decimal n.value) (IsAscii-decimal n.value (small n))

  pub ranged_misses : MissesClosers (ranged_at g)
  ranged_misses = record {
    misses = λ c rest e. ap (λ b. verdict (cond b (ranged (front is_ascii_digit (c ∷ rest)) (after is_ascii_digit (c ∷ rest)) (ranged_if g (value_of (front is_ascii_digit (c ∷ rest))))) (Missing (Unexpected (Some c) ADigit)))) (closer_no_digit c e);
  }

  pub ranged_decides : (x y : Ranged R g) → IsTrue (nat_eq x.value y.value) ↔ (x ≡ y)
  ranged_decides x y = (
    λ e. let f : Some x ≡ Some y = sym (ranged_found g x) ∙ (ap (ranged_of g) ((unsigned_Decides x.value y.value).0 e) ∙ ranged_found g y) in ap (λ o. unwrap_or o x) f,
    λ e. (unsigned_Decides x.value y.value).1 (ap (λ n. n.value) e),
  )
