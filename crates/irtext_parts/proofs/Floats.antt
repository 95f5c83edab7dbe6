-- Decimal numbers as floats, and floats as decimal numbers.
use Rattle.std.proofs.Common.{◌≡◌, ◌∙◌, ℕ, suc, ◌+◌, ◌<◌, Bool, true, false, cond, Some, [], ◌∷◌, ◌++◌, length, refl, sym, ap, subst, arith, true≢false}
use Rattle.std.proofs.lemmas.Bool.{eqb-true, ltb-true, lt-ltb, eq-eqb}
use Rattle.std.proofs.lemmas.Bool.Decides.{nat_tests}
use Rattle.std.proofs.lemmas.Float.Parse.{scan_numeral-text_of}
use Rattle.std.proofs.lemmas.List.Folds.{list_all-append}
use Rattle.std.specs.Char.{is_ascii_digit, digit_value}
use Rattle.std.specs.Float.Ieee.{Float, Format}
use Rattle.std.specs.Float.Numeral.{Parts, scan_numeral, nearest_float, exponent_text, text_of, IsWellFormed}
use Rattle.std.specs.Float.Parse.{read_float, parse_float}
use Rattle.std.specs.Fmt.{sign_text}
use Rattle.std.specs.List.{list_all}
use Rattle.std.specs.Prelude.{nat_eq, nat_lt}
use Rattle.std.specs.Str.Parse.{AllDigits}
use Rattle.ryu.specs.Plain.{IsPlain, IsPlainNumber}
use Rattle.irtext_base.specs.Text.{Text, begins}
use Rattle.irtext_base.proofs.Characters.{and_left, and_right}
use Rattle.irtext_syntax.specs.CloserTests.{both}
use Rattle.irtext_parts.specs.Spellings.{is_spelled}
use Rattle.irtext_parts.specs.Literals.{after_minus, begins_number, in_decimal, is_decimal_of, is_decimal, decimal_rules}

-- ---- a decimal number is a float's text
module _ (f : Format) where
  minus_parses : (t : Text) → is_decimal t ≡ true → parse_float f (45 ∷ t) ≡ Some (nearest_float f true (scan_numeral t))
  unfolding read_float
  minus_parses t e =
      let p = scan_numeral t in
      let size : p.len ≡ length t = eqb-true p.len (length t) (and_left (nat_eq p.len (length t)) _ e) in
      let some : 0 < length p.whole = ltb-true 0 (length p.whole) (and_left (nat_lt 0 (length p.whole)) _ (and_right (nat_eq p.len (length t)) _ e)) in
      rw (lt-ltb 0 (length p.whole + length p.fraction) (omega (arith, some)), eq-eqb (1 + p.len) (suc (length t)) (omega (arith, size)))

  plain_parses : (c : ℕ) (t : Text) → nat_eq c 45 ≡ false → nat_eq c 43 ≡ false → is_decimal (c ∷ t) ≡ true → parse_float f (c ∷ t) ≡ Some (nearest_float f false (scan_numeral (c ∷ t)))
  unfolding read_float
  plain_parses c t minus plus e =
      let p = scan_numeral (c ∷ t) in
      let size : p.len ≡ length (c ∷ t) = eqb-true p.len (length (c ∷ t)) (and_left (nat_eq p.len (length (c ∷ t))) _ e) in
      let some : 0 < length p.whole = ltb-true 0 (length p.whole) (and_left (nat_lt 0 (length p.whole)) _ (and_right (nat_eq p.len (length (c ∷ t))) _ e)) in
      rw (minus, plus, lt-ltb 0 (length p.whole + length p.fraction) (omega (arith, some)), eq-eqb (0 + p.len) (length (c ∷ t)) (omega (arith, size)))

  no_plus : (c : ℕ) → begins_number c ≡ true → nat_eq c 43 ≡ false
  no_plus c e = grind (arith, nat_tests)

  -- there is a float that it writes
  pub decimal_parses : (text : Text) → begins begins_number text ≡ true → is_decimal (after_minus text) ≡ true → (x : Float) × (parse_float f text ≡ Some x)
  decimal_parses [] b e = absurd (true≢false (sym b))
  decimal_parses (c ∷ t) b e = by (nat_eq c 45) refl e
    where
      by : (m : Bool) → nat_eq c 45 ≡ m → is_decimal (cond m t (c ∷ t)) ≡ true → (x : Float) × (parse_float f (c ∷ t) ≡ Some x)
      by true q e = (nearest_float f true (scan_numeral t), subst (λ z. parse_float f (z ∷ t) ≡ Some (nearest_float f true (scan_numeral t))) (sym (eqb-true c 45 q)) (minus_parses t e))
      by false q e = (nearest_float f false (scan_numeral (c ∷ t)), plain_parses c t q (no_plus c b) e)

-- ---- what is written for a float is a decimal number
digit_is : (c : ℕ) → digit_value c < 10 → is_ascii_digit c ≡ true
digit_is c e = grind (arith, nat_tests)

digit_in : (c : ℕ) → is_ascii_digit c ≡ true → in_decimal c ≡ true
digit_in c e = grind (arith, nat_tests)

digit_begins : (c : ℕ) → is_ascii_digit c ≡ true → begins_number c ≡ true
digit_begins c e = grind (arith, nat_tests)

digit_no_minus : (c : ℕ) → is_ascii_digit c ≡ true → nat_eq c 45 ≡ false
digit_no_minus c e = grind (arith, nat_tests)

every : (ds : Text) → AllDigits 10 ds → list_all in_decimal ds ≡ true
every [] h = refl
every (c ∷ ds) h = both (in_decimal c) _ (digit_in c (digit_is c h.0)) (every ds h.1)

every_two : (xs ys : Text) → list_all in_decimal xs ≡ true → list_all in_decimal ys ≡ true → list_all in_decimal (xs ++ ys) ≡ true
every_two xs ys e f = list_all-append in_decimal xs ys ∙ both (list_all in_decimal xs) _ e f

every_sign : (negative : Bool) → list_all in_decimal (sign_text negative) ≡ true
every_sign true = refl
every_sign false = refl

every_exponent : (negative : Bool) (ds : Text) → AllDigits 10 ds → list_all in_decimal (exponent_text negative ds) ≡ true
every_exponent negative [] h = refl
every_exponent negative (d ∷ ds) h = every_two (sign_text negative) (d ∷ ds) (every_sign negative) (every (d ∷ ds) h)

every_fraction : (point : Bool) (ds : Text) → AllDigits 10 ds → list_all in_decimal (cond point (46 ∷ ds) []) ≡ true
every_fraction true ds h = every ds h
every_fraction false ds h = refl

every_part : (p : Parts) → IsWellFormed p → list_all in_decimal (text_of p) ≡ true
every_part p w = every_two p.whole _ (every p.whole w.whole_digits) (every_two (cond p.point (46 ∷ p.fraction) []) _ (every_fraction p.point p.fraction w.fraction_digits) (every_exponent p.exponent_negative p.exponent w.exponent_digits))

-- the first character of such parts is a digit
first_digit : (whole rest : Text) → AllDigits 10 whole → 0 < length whole → begins is_ascii_digit (whole ++ rest) ≡ true
first_digit [] rest h l = absurd (omega (arith, l))
first_digit (d ∷ ds) rest h l = digit_is d h.0

no_minus : (text : Text) → begins is_ascii_digit text ≡ true → after_minus text ≡ text
no_minus [] e = refl
no_minus (c ∷ text) e = ap (λ b. let t : Text = cond b text (c ∷ text) in t) (digit_no_minus c e)

begins_so : (text : Text) → begins is_ascii_digit text ≡ true → begins begins_number text ≡ true
begins_so [] e = e
begins_so (c ∷ text) e = digit_begins c e

decimal_of : (p : Parts) → IsPlain p → is_decimal_of p (length (text_of p)) ≡ true
decimal_of p h = both (nat_eq p.len (length (text_of p))) _ (eq-eqb p.len (length (text_of p)) h.well_formed.len_is) (both (nat_lt 0 (length p.whole)) _ (lt-ltb 0 (length p.whole) h.whole) (by p.point refl))
  where
    by : (b : Bool) → p.point ≡ b → cond b (nat_lt 0 (length p.fraction)) (nat_lt 0 (length p.exponent)) ≡ true
    by true e = lt-ltb 0 (length p.fraction) (h.fraction e)
    by false e = lt-ltb 0 (length p.exponent) (h.marked e)

part_is_decimal : (p : Parts) → IsPlain p → is_decimal (text_of p) ≡ true
part_is_decimal p h = ap (λ q. is_decimal_of q (length (text_of p))) (scan_numeral-text_of p h.well_formed) ∙ decimal_of p h

signed : (negative : Bool) (p : Parts) → IsPlain p → is_spelled decimal_rules (sign_text negative ++ text_of p) ≡ true
signed true p h = both true _ refl (both (list_all in_decimal (45 ∷ text_of p)) _ (every_part p h.well_formed) (part_is_decimal p h))
signed false p h =
    let t = text_of p in
    let first : begins is_ascii_digit t ≡ true = first_digit p.whole _ h.well_formed.whole_digits h.whole in
    both (begins begins_number t) _ (begins_so t first) (both (list_all in_decimal t) _ (every_part p h.well_formed) (ap is_decimal (no_minus t first) ∙ part_is_decimal p h))

pub plain_is_spelled : (text : Text) → IsPlainNumber text → is_spelled decimal_rules text ≡ true
plain_is_spelled text h = subst (λ t. is_spelled decimal_rules t ≡ true) (sym h.2) (signed h.0 h.1 h.3)
