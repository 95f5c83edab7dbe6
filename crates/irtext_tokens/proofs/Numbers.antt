-- A number grows by one digit after another; the numbers that are parsed, of any type, are those of the grammar.
use Rattle.std.proofs.Common.{◌≡◌, ℕ, ℤ, pos, ◌+◌, ◌*◌, ◌^◌, Bool, true, false, cond, nat_lt, ltb, Option, Some, None, Result, Ok, Err, [], ◌∷◌, ◌++◌, length, get_or, take, drop, append-nil, append_assoc, refl, sym, ◌∙◌, ap, subst, arith, inl, inr, ◌<◌}
use Rattle.std.proofs.lemmas.Bool.Decides.{nat_tests}
use Rattle.std.proofs.lemmas.Int.Digits.{digits_value_push}
use Rattle.std.proofs.lemmas.List.{take_more, take-append-drop}
use Rattle.std.proofs.lemmas.Str.{encode_ascii}
use Rattle.std.specs.Char.{is_ascii_digit, digit_value}
use Rattle.std.specs.Str.{encode_utf8_all}
use Rattle.std.specs.Str.Parse.{digits_value}
use Rattle.irtext_base.specs.Text.{Text, begins, front, after}
use Rattle.irtext_base.specs.Reading.{the}
use Rattle.irtext_base.specs.Stream.{StreamView}
use Rattle.irtext_base.specs.Answers.{Outcome, Read, Missing, Bad, Answers, DemandsOf, NeedsNoMemory, demanded, mapped, unless_failed}
use Rattle.irtext_base.specs.declared.parsable.fault.ParseFault.{ParseFault}
use Rattle.irtext_base.proofs.Compose.{answers_demanded}
use Rattle.irtext_tokens.specs.Digits.{base, fitting, appended, value_in}
use Rattle.irtext_tokens.specs.Integers.{unsigned_below, signed_below, integer_by, within, ranged, no_digit_after, numeral_at, signed_integer, int_at}
use Rattle.irtext_tokens.specs.MustRead.{MustRead}
use Rattle.irtext_tokens.specs.Reads.{SparesMemory}
use Rattle.irtext_tokens.specs.Tokens.{is_sign, sign_of, after_sign, value_of, negated, numbered, no_digit, number_at, integer_of, integered, no_integer, integer_at}
use Rattle.irtext_tokens.specs.declared.irfmt.parsers.digits.Radix.{Radix}
use Rattle.irtext_tokens.proofs.Sparing.{demanded_spares, unmapped_spares}
use Rattle.irtext_tokens.specs.declared.irfmt.parsers.digits.Radix.TheVariants as radix

-- a number that doesn't fit fits no better with one more digit
too_great : (r : Radix) (n d : ℕ) → ltb n (2 ^ 64) ≡ false → ltb (n * base r + d) (2 ^ 64) ≡ false
too_great radix.Decimal n d e = grind (arith, nat_tests)
too_great radix.Hexadecimal n d e = grind (arith, nat_tests)

appended-fitting : (r : Radix) (n d : ℕ) → appended (base r) (fitting n) d ≡ fitting (n * base r + d)
appended-fitting r n d =
    elim (ltb n (2 ^ 64)) as (λ b. ltb n (2 ^ 64) ≡ b → appended (base r) (cond b (Some n) None) d ≡ fitting (n * base r + d)) [
      | true ↦ (λ e. refl)
      | false ↦ (λ e. rw (too_great r n d e) refl)
    ] refl

-- one more digit
pub value_in-push : (r : Radix) (digits : Text) (c : ℕ) → appended (base r) (value_in (base r) digits) (digit_value c) ≡ value_in (base r) (digits ++ (c ∷ []))
value_in-push r digits c = appended-fitting r (digits_value (base r) digits) (digit_value c) ∙ ap fitting (sym (digits_value_push (base r) digits c))

-- further digits after a number that doesn't fit are consumed, and it still doesn't fit
value_in-none : (r : Radix) (digits more : Text) → value_in (base r) digits ≡ None → value_in (base r) (digits ++ more) ≡ None
value_in-none r digits [] e = ap (value_in (base r)) (append-nil digits) ∙ e
value_in-none r digits (c ∷ more) e =
    ap (value_in (base r)) (sym (append_assoc digits (c ∷ []) more)) ∙ value_in-none r (digits ++ (c ∷ [])) more (sym (value_in-push r digits c) ∙ ap (λ v. appended (base r) v (digit_value c)) e)

-- the number of the digits up to one, from the number of those before it
pub value_in-next : (r : Radix) (digits : Text) (i n : ℕ) (v : Option ℕ) → i < length digits → value_in (base r) (take i digits) ≡ Some n → v ≡ appended (base r) (Some n) (digit_value (get_or digits i 0)) → value_in (base r) (take (i + 1) digits) ≡ v
value_in-next r digits i n v l e a =
    ap (value_in (base r)) (take_more digits i 0 l) ∙ (sym (value_in-push r (take i digits) (get_or digits i 0)) ∙ (ap (λ z. appended (base r) z (digit_value (get_or digits i 0))) e ∙ sym a))

-- where the digits up to one don't fit, all don't
pub value_in-stops : (r : Radix) (digits : Text) (i : ℕ) → value_in (base r) (take i digits) ≡ None → value_in (base r) digits ≡ None
value_in-stops r digits i e = ap (value_in (base r)) (sym (take-append-drop i digits)) ∙ value_in-none r (take i digits) (drop i digits) e

is_sign_ascii : (c : ℕ) → is_sign c ≡ true → c < 128
is_sign_ascii c e = grind (arith, nat_tests)

-- the bytes of a sign and digits
pub encodes-sign : (text : Text) → encode_utf8_all (sign_of text) ≡ sign_of text
encodes-sign [] = refl
encodes-sign (c ∷ text) =
    elim (is_sign c) as (λ b. is_sign c ≡ b → encode_utf8_all (cond b (c ∷ []) []) ≡ cond b (c ∷ []) []) [
      | true ↦ (λ e. rw (encode_ascii c (is_sign_ascii c e)) refl)
      | false ↦ (λ e. refl)
    ] refl

-- no number is less than nothing
none_below : (n : ℕ) → nat_lt n 0 ≡ false
none_below n = grind (arith, nat_tests)

unsigned_read : (sign digits rest : Text) (minus : Bool) (n : ℕ) → begins (the 45) sign ≡ minus → ranged (sign ++ digits) rest (within (unsigned_below 64) minus n) ≡ mapped pos (numbered sign digits rest (fitting n))
unsigned_read sign digits rest true n e = rw (none_below n) (elim (nat_lt n (2 ^ 64)) as (λ b. ranged (sign ++ digits) rest None ≡ mapped pos (numbered sign digits rest (cond b (Some n) None))) [ true ↦ rw e refl | false ↦ refl ])
unsigned_read sign digits rest false n e = elim (nat_lt n (2 ^ 64)) as (λ b. ranged (sign ++ digits) rest (cond b (Some (integer_by false n)) None) ≡ mapped pos (numbered sign digits rest (cond b (Some n) None))) [ true ↦ rw e refl | false ↦ refl ]

no_unsigned : (below : Bool → ℕ) (sign text : Text) → numeral_at is_ascii_digit (signed_integer below) (no_digit_after sign text) ≡ mapped pos (no_digit sign text)
no_unsigned below [] text = refl
no_unsigned below (c ∷ sign) text = refl

-- an unsigned number of 64 bits is the grammar's
pub number_is : (text : Text) → int_at (unsigned_below 64) text ≡ mapped pos (number_at text)
unfolding int_at number_at
number_is text =
    let sign = sign_of text in
    let digits = front is_ascii_digit (after_sign text) in
    let rest = after is_ascii_digit (after_sign text) in
    elim (begins is_ascii_digit (after_sign text)) as (λ b. numeral_at is_ascii_digit (signed_integer (unsigned_below 64)) (cond b (Read sign sign (after_sign text)) (no_digit_after sign (after_sign text))) ≡ mapped pos (cond b (numbered sign digits rest (value_of digits)) (no_digit sign (after_sign text)))) [
      | true ↦ unsigned_read sign digits rest (begins (the 45) sign) (digits_value 10 digits) refl
      | false ↦ no_unsigned (unsigned_below 64) sign (after_sign text)
    ]

small : (n : ℕ) → nat_lt n 2147483649 ≡ true → (nat_lt n (2 ^ 64) ≡ true) × (nat_lt 2147483648 n ≡ false)
small n e = (grind (arith, nat_tests), grind (arith, nat_tests))

great : (n : ℕ) → nat_lt n 2147483649 ≡ false → nat_lt 2147483648 n ≡ true
great n e = grind (arith, nat_tests)

smaller : (n : ℕ) → nat_lt n 2147483648 ≡ true → (nat_lt n (2 ^ 64) ≡ true) × (nat_lt 2147483647 n ≡ false)
smaller n e = (grind (arith, nat_tests), grind (arith, nat_tests))

greater : (n : ℕ) → nat_lt n 2147483648 ≡ false → nat_lt 2147483647 n ≡ true
greater n e = grind (arith, nat_tests)

-- what fits 32 bits with its sign
signed_fits : (sign : Text) (minus : Bool) (n : ℕ) → begins (the 45) sign ≡ minus → within (signed_below 32) minus n ≡ integer_of sign (fitting n)
signed_fits sign true n e =
    elim (nat_lt n 2147483649) as (λ b. nat_lt n 2147483649 ≡ b → cond b (Some (negated n)) None ≡ integer_of sign (fitting n)) [
      | true ↦ (λ q. let p = small n q in rw p.0 (rw e (rw p.1 refl)))
      | false ↦ (λ q. elim (nat_lt n (2 ^ 64)) as (λ b. None ≡ integer_of sign (cond b (Some n) None)) [ true ↦ rw e (rw (great n q) refl) | false ↦ refl ])
    ] refl
signed_fits sign false n e =
    elim (nat_lt n 2147483648) as (λ b. nat_lt n 2147483648 ≡ b → cond b (Some (pos n)) None ≡ integer_of sign (fitting n)) [
      | true ↦ (λ q. let p = smaller n q in rw p.0 (rw e (rw p.1 refl)))
      | false ↦ (λ q. elim (nat_lt n (2 ^ 64)) as (λ b. None ≡ integer_of sign (cond b (Some n) None)) [ true ↦ rw e (rw (greater n q) refl) | false ↦ refl ])
    ] refl

ranged_integer : (sign digits rest : Text) (o : Option ℤ) → ranged (sign ++ digits) rest o ≡ integered sign digits rest o
ranged_integer sign digits rest None = refl
ranged_integer sign digits rest (Some z) = refl

no_signed : (below : Bool → ℕ) (sign text : Text) → numeral_at is_ascii_digit (signed_integer below) (no_digit_after sign text) ≡ no_integer sign text
no_signed below [] text = refl
no_signed below (c ∷ sign) text = refl

-- a signed number of 32 bits is the grammar's
pub integer_is : (text : Text) → int_at (signed_below 32) text ≡ integer_at text
unfolding int_at integer_at
integer_is text =
    let sign = sign_of text in
    let digits = front is_ascii_digit (after_sign text) in
    let rest = after is_ascii_digit (after_sign text) in
    elim (begins is_ascii_digit (after_sign text)) as (λ b. numeral_at is_ascii_digit (signed_integer (signed_below 32)) (cond b (Read sign sign (after_sign text)) (no_digit_after sign (after_sign text))) ≡ cond b (integered sign digits rest (integer_of sign (value_of digits))) (no_integer sign (after_sign text))) [
      | true ↦ ap (ranged (sign ++ digits) rest) (signed_fits sign (begins (the 45) sign) (digits_value 10 digits) refl) ∙ ranged_integer sign digits rest (integer_of sign (value_of digits))
      | false ↦ no_signed (signed_below 32) sign (after_sign text)
    ]

mapped_unless : (b : Bool) (o : Outcome ℕ) → demanded (unless_failed b (mapped pos o)) ≡ mapped pos (demanded (unless_failed b o))
mapped_unless true o = refl
mapped_unless false (Read n taken rest) = refl
mapped_unless false (Missing cause) = refl
mapped_unless false (Bad cause upto) = refl

module _ {S A : Type 0} (view : S → StreamView) (at : S → StreamView → S) where
  -- a number that is parsed as an integer is parsed
  pub as_number : (o : Outcome ℕ) (old new : S) (r : Result ℕ (ParseFault A)) → Answers view at pos (mapped pos o) old r new → Answers view at (λ n. n) o old r new
  as_number (Read n taken rest) old new (Ok m) h = let e : m ≡ n = cc in (e, h.1)
  as_number (Missing cause) old new (Ok m) h = absurd h
  as_number (Bad cause upto) old new (Ok m) h = absurd h
  as_number o old new (Err fault) (inl h) = inl h
  as_number (Read n taken rest) old new (Err fault) (inr h) = absurd h
  as_number (Missing cause) old new (Err fault) (inr h) = inr h
  as_number (Bad cause upto) old new (Err fault) (inr h) = inr h

  module _ (view_at : (s : S) (v : StreamView) → view (at s v) ≡ v) (at_at : (s : S) (v w : StreamView) → at (at s v) w ≡ at s w) (old mid new : S) where
    -- a required unsigned number of 64 bits is the grammar's
    pub number_must : (a r : Result ℕ (ParseFault A)) → Answers view at pos (unless_failed (view old).failed (int_at (unsigned_below 64) (view old).rest)) old a mid → DemandsOf view at a mid r new → MustRead view at (λ n. n) number_at old r new
    number_must a r h d =
        let e = ap (λ o. demanded (unless_failed (view old).failed o)) (number_is (view old).rest) ∙ mapped_unless (view old).failed (number_at (view old).rest) in
        let k = answers_demanded view at view_at at_at pos (unless_failed (view old).failed (int_at (unsigned_below 64) (view old).rest)) old mid new a r h d in
        record { answers = as_number (demanded (unless_failed (view old).failed (number_at (view old).rest))) old new r (rw e at k) }

    -- a required signed number of 32 bits is the grammar's
    pub integer_must : (a r : Result ℤ (ParseFault A)) → Answers view at (λ z. z) (unless_failed (view old).failed (int_at (signed_below 32) (view old).rest)) old a mid → DemandsOf view at a mid r new → MustRead view at (λ z. z) integer_at old r new
    integer_must a r h d =
        let k = answers_demanded view at view_at at_at (λ z. z) (unless_failed (view old).failed (int_at (signed_below 32) (view old).rest)) old mid new a r h d in
        record { answers = rw (integer_is (view old).rest) at k }

    -- if it is there, no memory is needed
    pub number_spares : (a r : Result ℕ (ParseFault A)) → SparesMemory view (int_at (unsigned_below 64)) old a → DemandsOf view at a mid r new → SparesMemory view number_at old r
    number_spares a r h d =
        let k = demanded_spares view at mid new (unless_failed (view old).failed (int_at (unsigned_below 64) (view old).rest)) a r h d in
        unmapped_spares ℕ pos (view old).failed (number_at (view old).rest) r (subst (λ o. NeedsNoMemory (unless_failed (view old).failed o) r) (number_is (view old).rest) k)

    -- the same of a signed one
    pub integer_spares : (a r : Result ℤ (ParseFault A)) → SparesMemory view (int_at (signed_below 32)) old a → DemandsOf view at a mid r new → SparesMemory view integer_at old r
    integer_spares a r h d =
        let k = demanded_spares view at mid new (unless_failed (view old).failed (int_at (signed_below 32) (view old).rest)) a r h d in
        subst (λ o. NeedsNoMemory (unless_failed (view old).failed o) r) (integer_is (view old).rest) k
