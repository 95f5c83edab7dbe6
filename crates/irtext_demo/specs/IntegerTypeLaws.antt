-- The law of integer types, as parts.
use Rattle.std.proofs.Common.{◌≡◌, ℕ, ◌<◌, ◌^◌, Bool, true, false, cond, not, [], ◌∷◌, ◌++◌, length, refl, sym, ◌∙◌, ap, ap₂, arith, inl, inr, codes, decimal, true≢false}
use Rattle.std.proofs.lemmas.Bool.Decides.{nat_tests}
use Rattle.std.proofs.lemmas.Fmt.{IsAscii-decimal, decimal_is_IsNumeral}
use Rattle.std.proofs.lemmas.Str.{IsAscii-append, encodes-IsAscii}
use Rattle.std.specs.Char.{is_ascii_digit}
use Rattle.std.specs.List.{list_all}
use Rattle.std.specs.Prelude.{◌↔◌, IsTrue}
use Rattle.std.specs.Str.{IsAscii, encode_utf8_all}
use Rattle.std.specs.Str.Parse.{digits_value}
use Rattle.irtext_base.specs.Text.{Text, begins, front, after}
use Rattle.irtext_base.specs.Reading.{the}
use Rattle.irtext_base.specs.Faults.{ADigit, Unexpected}
use Rattle.irtext_base.specs.Stream.{first_of}
use Rattle.irtext_base.specs.Answers.{Read, Missing, prefixed, mapped, followed}
use Rattle.irtext_base.specs.Own.{verdict, Ends, can_follow}
use Rattle.irtext_base.proofs.Along.{front_after}
use Rattle.irtext_base.proofs.Characters.{and_left, front_all, after_all}
use Rattle.irtext_base.proofs.Numbers.{digits_every}
use Rattle.irtext_base.proofs.Scalars.{scalars_ascii}
use Rattle.irtext_base.proofs.Sincere.{Of, of_missing, of_either, of_followed, of_mapped, sincere_of}
use Rattle.irtext_tokens.proofs.Decimals.{fitting-small}
use Rattle.irtext_tokens.proofs.SincereTokens.{of_text, of_ranged}
use Rattle.irtext_tokens.specs.Integers.{ranged}
use Rattle.irtext_tokens.specs.Tokens.{fitting, value_of}
use Rattle.irtext_syntax.specs.PartLaws.{IsRead, PartLaw, EndsAnywhere}
use Rattle.irtext_syntax.specs.PartSteps.{ascii_from}
use Rattle.irtext_syntax.specs.OwnLaws.{ends_if, ends_closing}
use Rattle.irtext_syntax.specs.ShapeLaws.{Proved}
use Rattle.irtext_demo.specs.EqualTypes.{integer_same}
use Rattle.irtext_demo.specs.IntegerTypes.{signedness_text, integer_type_text, signedness_at, width_if, width_at, integer_type_with, integer_type_at, integer_type_ends, integer_type}
use Rattle.irtext_demo.specs.WidthLaws.{width_found, width_small}
use Rattle.irtext_demo.specs.declared.width.Width.{Width}
use Rattle.irtext_demo.specs.declared.integer_type.Signedness.{Signedness}
use Rattle.irtext_demo.specs.declared.integer_type.Signedness.TheVariants.{Signed, Unsigned, Signless}
use Rattle.irtext_demo.specs.declared.integer_type.IntegerType.{IntegerType}
use Rattle.irtext_demo.specs.contracts.integer_type.IntegerTypePartialEq.TheImpl as integer_test
use Rattle.irtext_demo.specs.contracts.integer_type.IntegerTypeEq.TheImpl.Laws as integer_laws

-- ---- parsed back
-- the digits of a width are parsed if no digit comes after them
digits-width : (ds rest : Text) (w : Width) → 0 < length ds → list_all is_ascii_digit ds ≡ true → digits_value 10 ds ≡ w.bits → begins is_ascii_digit rest ≡ false → width_at (ds ++ rest) ≡ Read w ds rest
digits-width [] rest w some all v stop = absurd (omega (arith, some))
digits-width (c ∷ s) rest w some all v stop =
    let t = (c ∷ s) ++ rest in
    let small : w.bits < 2 ^ 64 = omega (arith, width_small w) in
    ap (λ b. cond b (ranged (front is_ascii_digit t) (after is_ascii_digit t) (width_if (value_of (front is_ascii_digit t)))) (Missing (Unexpected (first_of t) ADigit))) (and_left (is_ascii_digit c) (list_all is_ascii_digit s) all)
    ∙ (ap₂ (λ f a. ranged f a (width_if (value_of f))) (front_all is_ascii_digit (c ∷ s) rest all stop) (after_all is_ascii_digit (c ∷ s) rest all stop)
    ∙ (ap (λ o. ranged (c ∷ s) rest (width_if o)) (ap fitting v ∙ fitting-small w.bits small)
    ∙ ap (ranged (c ∷ s) rest) (width_found w)))

-- a width is parsed back if no digit comes after it
width-here : (w : Width) (rest : Text) → begins is_ascii_digit rest ≡ false → width_at (decimal w.bits ++ rest) ≡ Read w (decimal w.bits) rest
width-here w rest stop =
    let k = decimal_is_IsNumeral w.bits (omega (arith, width_small w)) in
    digits-width (decimal w.bits) rest w k.0.0 (digits_every (decimal w.bits) k.0.1) k.1 stop

no_digit : (rest : Text) → integer_type_ends rest ≡ true → begins is_ascii_digit rest ≡ false
no_digit rest e = by (begins is_ascii_digit rest) e
  where
    by : (b : Bool) → not b ≡ true → b ≡ false
    by true q = absurd (true≢false (sym q))
    by false q = refl

back : (t : IntegerType) (rest : Text) → integer_type_ends rest ≡ true → IsRead integer_type_at t (integer_type_text t ++ rest) rest
back t rest e = by t.kind refl
  where
    more : (kind : Signedness) → kind ≡ t.kind → (word : Text) → followed (Read kind word (decimal t.width.bits ++ rest)) (λ kind text. mapped (integer_type_with kind) (width_at text)) ≡ Read t (word ++ decimal t.width.bits) rest
    more kind k word = rw k (ap (λ o. prefixed word (mapped (integer_type_with t.kind) o)) (width-here t.width rest (no_digit rest e)))

    by : (kind : Signedness) → kind ≡ t.kind → IsRead integer_type_at t ((signedness_text kind ++ decimal t.width.bits) ++ rest) rest
    by Signed k = (rest, ap verdict (more Signed k (codes "si")), refl)
    by Unsigned k = (rest, ap verdict (more Unsigned k (codes "ui")), refl)
    by Signless k = (rest, ap verdict (more Signless k (codes "i")), refl)

-- ---- what ends it
digit_not_end : (c : ℕ) → can_follow c ≡ true → not (is_ascii_digit c) ≡ true
digit_not_end c e = grind (arith, nat_tests)

ended : (rest : Text) → Ends rest → integer_type_ends rest ≡ true
ended [] e = refl
ended (c ∷ rest) (inl e) = absurd (cc)
ended (c ∷ rest) (inr e) = digit_not_end c e

pub integer_type_last : EndsAnywhere integer_type_ends
integer_type_last = record { anywhere = ended }

-- ---- its characters
ascii-signedness : (kind : Signedness) → IsAscii (signedness_text kind)
ascii-signedness Signed = ascii_from (codes "si") refl
ascii-signedness Unsigned = ascii_from (codes "ui") refl
ascii-signedness Signless = ascii_from (codes "i") refl

ascii-integer_type : (t : IntegerType) → IsAscii (integer_type_text t)
ascii-integer_type t = IsAscii-append (signedness_text t.kind) (decimal t.width.bits) (ascii-signedness t.kind) (IsAscii-decimal t.width.bits (omega (arith, width_small t.width)))

-- the bytes of its text are its characters
pub encodes-integer_type : (t : IntegerType) → encode_utf8_all (integer_type_text t) ≡ integer_type_text t
encodes-integer_type t = encodes-IsAscii (integer_type_text t) (ascii-integer_type t)

-- ---- what the parser says
of_signedness : (text : Text) → Of text (signedness_at text)
of_signedness text = of_either text (begins (the 115) text) _ _ (of_mapped text _ _ (of_text (codes "si") text)) (of_either text (begins (the 117) text) _ _ (of_mapped text _ _ (of_text (codes "ui") text))
    (of_either text (begins (the 105) text) _ _ (of_mapped text _ _ (of_text (codes "i") text)) (of_missing text _ refl)))

of_width : (text : Text) → Of text (width_at text)
of_width text = of_either text (begins is_ascii_digit text) _ _ (of_ranged text (front is_ascii_digit text) (after is_ascii_digit text) (width_if (value_of (front is_ascii_digit text))) (front_after is_ascii_digit text)) (of_missing text _ refl)

pub integer_type_law : PartLaw integer_type_at integer_type_text integer_type_ends
integer_type_law = record {
  back = back;
  closed = λ rest e. ended rest (ends_if rest (ends_closing rest e));
  scalars = λ t. scalars_ascii (integer_type_text t) (ascii-integer_type t);
  sincere = sincere_of integer_type_at (λ text. of_followed text _ _ (of_signedness text) (λ kind t. of_mapped t _ _ (of_width t)));
}

pub integer_type_decides : (s t : IntegerType) → IsTrue (integer_test.ghosts.eq s t) ↔ (s ≡ t)
integer_type_decides s t = (integer_same s t, λ e. ap (integer_test.ghosts.eq s) (sym e) ∙ integer_laws.laws-law.refl s)

pub integer_type_proved : Proved integer_type
integer_type_proved = record { law = integer_type_law; decides = integer_type_decides }
