-- What the parsers of tokens say of a text is of that text.
use Rattle.std.proofs.Common.{◌≡◌, ℕ, zero, suc, List, length, Bool, true, false, cond, Option, Some, None, [], ◌∷◌, ◌++◌, refl, sym, ◌∙◌, ap, append_assoc, subst}
use Rattle.std.proofs.lemmas.Bool.{eqb-true}
use Rattle.std.specs.Prelude.{◌==◌, codes}
use Rattle.std.specs.Char.{is_ascii_digit, is_ascii_hexdigit, is_whitespace}
use Rattle.std.specs.Str.Parse.{digits_value}
use lib.Utf8.{scalar}
use Rattle.irtext_base.specs.Text.{Text, begins, front, after}
use Rattle.irtext_base.specs.Reading.{the}
use Rattle.irtext_base.specs.Faults.{Unexpected, Word}
use Rattle.irtext_base.specs.Answers.{Outcome, Read, Missing, Bad, prefixed, mapped}
use Rattle.irtext_base.proofs.Along.{front_after}
use Rattle.irtext_base.proofs.Sincere.{Of, of_read, of_missing, of_bad, of_here, of_either, of_prefixed, of_followed, of_mapped}
use Rattle.irtext_tokens.specs.Tokens.{is_sign, sign_of, after_sign, spelled_at, text_at, space_at}
use Rattle.irtext_tokens.specs.Demanded.{spaced_at}
use Rattle.irtext_tokens.specs.ListOutcomes.{item_after, items_after, or_empty, separated_at}
use Rattle.irtext_tokens.specs.Integers.{sign_at, numeral_at, ranged, signed_integer, no_digit_after, int_at}
use Rattle.irtext_tokens.specs.QuotedTexts.{escape_of, escaped, named, closed, braced, unicode_at, escape_at, unit_at, after_first, unit_before, units_at, quoted_at}
use Rattle.irtext_tokens.proofs.QuotedUnits.{UnitBegins, unit_begun}

-- ---- fixed texts
of_spelled : (whole word text : Text) → Of text (spelled_at whole word text)
of_spelled whole [] text = of_read text tt [] text refl
of_spelled whole (c ∷ word) [] = of_missing [] _ refl
of_spelled whole (c ∷ word) (d ∷ text) = of_either (d ∷ text) (the c d) (prefixed (d ∷ []) (spelled_at whole word text)) _ (of_prefixed (d ∷ []) text (spelled_at whole word text) (of_spelled whole word text)) (of_missing (d ∷ text) _ refl)

pub of_text : (word text : Text) → Of text (text_at word text)
of_text word text = of_spelled word word text

-- ---- integers
sign_after : (text : Text) → sign_of text ++ after_sign text ≡ text
sign_after [] = refl
sign_after (c ∷ text) = elim (is_sign c) as (λ b. cond b (c ∷ []) [] ++ cond b text (c ∷ text) ≡ c ∷ text) [ true ↦ refl | false ↦ refl ]

of_no_digit : {X : Type 0} (sign text whole : Text) → sign ++ text ≡ whole → Of {X = X} whole (no_digit_after sign text)
of_no_digit [] text whole e = of_missing whole _ refl
of_no_digit (c ∷ sign) text whole e = of_bad whole _ (c ∷ sign) text refl e

of_sign : (text : Text) → Of text (sign_at text)
of_sign text = of_either text (begins is_ascii_digit (after_sign text)) _ _ (of_read text (sign_of text) (sign_of text) (after_sign text) (sign_after text)) (of_no_digit (sign_of text) (after_sign text) text (sign_after text))

pub of_ranged : {X : Type 0} (text taken left : Text) (o : Option X) → taken ++ left ≡ text → Of text (ranged taken left o)
of_ranged text taken left None e = of_here text _ refl
of_ranged text taken left (Some x) e = of_read text x taken left e

of_numeral : {L X : Type 0} (digit : ℕ → Bool) (make : L → Text → Option X) (text : Text) (o : Outcome L) → Of text o → Of text (numeral_at digit make o)
of_numeral digit make text (Read lead taken left) h =
    of_ranged text (taken ++ front digit left) (after digit left) (make lead (front digit left)) (append_assoc taken (front digit left) (after digit left) ∙ (ap (λ z. taken ++ z) (front_after digit left) ∙ h.says))
of_numeral digit make text (Missing cause) h = of_missing text cause h.says
of_numeral digit make text (Bad cause upto) h = of_bad text cause upto h.says.1.0 h.says.0 h.says.1.1

pub of_int : (below : Bool → ℕ) (text : Text) → Of text (int_at below text)
unfolding int_at
of_int below text = of_numeral is_ascii_digit (signed_integer below) text (sign_at text) (of_sign text)

-- ---- quoted texts
of_named : (digits text : Text) → Of (92 ∷ 117 ∷ 123 ∷ (digits ++ (125 ∷ text))) (named digits text)
of_named digits text = of_either _ (scalar (digits_value 16 digits)) _ _ (of_read _ _ _ text (ap (λ z. 92 ∷ 117 ∷ 123 ∷ z) (append_assoc digits (125 ∷ []) text))) (of_here _ _ refl)

of_closed : (digits text : Text) → Of (92 ∷ 117 ∷ 123 ∷ (digits ++ text)) (closed digits text)
of_closed digits [] = of_bad _ _ (codes "\\u{" ++ digits) [] refl refl
of_closed digits (c ∷ text) =
    elim (c == 125) as (λ b. (c == 125) ≡ b → Of (92 ∷ 117 ∷ 123 ∷ (digits ++ (c ∷ text))) (cond b (named digits text) (Bad (Unexpected (Some c) (Word (codes "}"))) (codes "\\u{" ++ digits)))) [
      | true ↦ (λ q. subst (λ z. Of (92 ∷ 117 ∷ 123 ∷ (digits ++ (z ∷ text))) (named digits text)) (sym (eqb-true c 125 q)) (of_named digits text))
      | false ↦ (λ q. of_bad _ _ (codes "\\u{" ++ digits) (c ∷ text) refl refl)
    ] refl

of_braced : (digits text : Text) → Of (92 ∷ 117 ∷ 123 ∷ (digits ++ text)) (braced digits text)
of_braced [] text = of_bad _ _ (codes "\\u{") text refl refl
of_braced (d ∷ digits) text = of_closed (d ∷ digits) text

of_unicode : (text : Text) → Of (92 ∷ 117 ∷ text) (unicode_at text)
of_unicode [] = of_bad _ _ (codes "\\u") [] refl refl
of_unicode (c ∷ text) =
    let digits = front is_ascii_hexdigit text in
    let following = after is_ascii_hexdigit text in
    elim (c == 123) as (λ b. (c == 123) ≡ b → Of (92 ∷ 117 ∷ c ∷ text) (cond b (braced digits following) (Bad (Unexpected (Some c) (Word (codes "{"))) (codes "\\u")))) [
      | true ↦ (λ q. subst (λ z. Of (92 ∷ 117 ∷ z ∷ text) (braced digits following)) (sym (eqb-true c 123 q)) (subst (λ z. Of (92 ∷ 117 ∷ 123 ∷ z) (braced digits following)) (front_after is_ascii_hexdigit text) (of_braced digits following)))
      | false ↦ (λ q. of_bad _ _ (codes "\\u") (c ∷ text) refl refl)
    ] refl

of_escaped : (o : Option ℕ) (e : ℕ) (text : Text) → Of (92 ∷ e ∷ text) (escaped o e text)
of_escaped (Some c) e text = of_read _ c (92 ∷ e ∷ []) text refl
of_escaped None e text = of_here _ _ refl

of_escape : (text : Text) → Of (92 ∷ text) (escape_at text)
of_escape [] = of_bad _ _ (codes "\\") [] refl refl
of_escape (e ∷ text) =
    elim (e == 117) as (λ b. (e == 117) ≡ b → Of (92 ∷ e ∷ text) (cond b (unicode_at text) (escaped (escape_of e) e text))) [
      | true ↦ (λ q. subst (λ z. Of (92 ∷ z ∷ text) (unicode_at text)) (sym (eqb-true e 117 q)) (of_unicode text))
      | false ↦ (λ q. of_escaped (escape_of e) e text)
    ] refl

of_unit : (c : ℕ) (text : Text) → Of (c ∷ text) (unit_at (c ∷ text))
unfolding unit_at
of_unit c text =
    elim (c == 92) as (λ b. (c == 92) ≡ b → Of (c ∷ text) (cond b (escape_at text) (Read c (c ∷ []) text))) [
      | true ↦ (λ q. subst (λ z. Of (z ∷ text) (escape_at text)) (sym (eqb-true c 92 q)) (of_escape text))
      | false ↦ (λ q. of_read (c ∷ text) c (c ∷ []) text refl)
    ] refl

-- a unit that was begun, and what holds of the text after it
of_before : (c : ℕ) (text : Text) (o : Outcome ℕ) (next : Text → Outcome Text) → Of (c ∷ text) o → UnitBegins c text o → ((left rest : Text) → left ++ rest ≡ text → Of rest (next left)) → Of (c ∷ text) (unit_before o next)
of_before c text (Read d taken rest) next h b k =
    let m = of_mapped rest (λ cs. d ∷ cs) (next (after_first taken)) (subst (λ z. Of rest (next (after_first z))) (sym b.1) (k b.0 rest b.2)) in
    subst (λ z. Of z (prefixed taken (mapped (λ cs. d ∷ cs) (next (after_first taken))))) h.says (of_prefixed taken rest _ m)
of_before c text (Missing cause) next h b k = of_missing (c ∷ text) cause h.says
of_before c text (Bad cause upto) next h b k = of_bad (c ∷ text) cause upto h.says.1.0 h.says.0 h.says.1.1

tail_of : (d c : ℕ) (left text : Text) → ◌≡◌ {A = Text} (d ∷ left) (c ∷ text) → left ≡ text
tail_of d c left text e = cc

-- after what is left of a unit
of_units : (left text rest : Text) → left ++ rest ≡ text → Of rest (units_at left text)
of_units left [] rest e = of_here rest _ refl
of_units [] (c ∷ text) rest e =
    subst (λ z. Of z (units_at [] (c ∷ text))) (sym e) (of_either (c ∷ text) (c == 34) (Read [] (c ∷ []) text) (unit_before (unit_at (c ∷ text)) (λ left. units_at left text))
    (of_read (c ∷ text) [] (c ∷ []) text refl) (of_before c text (unit_at (c ∷ text)) (λ left. units_at left text) (of_unit c text) (unit_begun c text) (λ left rest f. of_units left text rest f)))
of_units (d ∷ left) (c ∷ text) rest e = of_units left text rest (tail_of d c (left ++ rest) text e)

pub of_quoted : (text : Text) → Of text (quoted_at text)
unfolding quoted_at
of_quoted text = of_followed text (text_at (codes "\"") text) (λ mark t. units_at [] t) (of_text (codes "\"") text) (λ mark t. of_units [] t t refl)

-- ---- white space, and what is next to it
pub of_space : (text : Text) → Of text (space_at text)
of_space text = of_read text tt (front is_whitespace text) (after is_whitespace text) (front_after is_whitespace text)

pub of_spaced : (w text : Text) → Of text (spaced_at w text)
of_spaced w text = of_followed text _ _ (of_space text) (λ _ t. of_followed t _ _ (of_text w t) (λ _ u. of_space u))

-- ---- lists
of_or_empty : {X : Type 0} (text : Text) (o : Outcome (List X)) → Of text o → Of text (or_empty o text)
of_or_empty text (Read xs taken rest) h = h
of_or_empty text (Missing cause) h = of_read text [] [] text refl
of_or_empty text (Bad cause upto) h = h

module _ {X : Type 0} (separator : ℕ) (item : Text → Outcome X) (of_item : (text : Text) → Of text (item text)) where
  of_item_after : (found : List X) (text : Text) → Of text (item_after separator item found text)
  of_item_after found text = of_followed text (item text) (λ x t. mapped (λ _. found ++ (x ∷ [])) (space_at t)) (of_item text) (λ x t. of_mapped t (λ _. found ++ (x ∷ [])) (space_at t) (of_space t))

  of_items_after : (n : ℕ) (found : List X) (text : Text) → Of text (items_after separator item n found text)
  of_items_after zero found text = of_read text found [] text refl
  of_items_after (suc n) found text = of_either text (begins (the separator) text) _ _
      (of_followed text _ _ (of_text (separator ∷ []) text) (λ _ t. of_followed t _ _ (of_space t) (λ _ u. of_followed u _ _ (of_item_after found u) (λ more v. of_items_after n more v))))
      (of_read text found [] text refl)

  -- of items, as long as each is of its text
  pub of_separated : (text : Text) → Of text (separated_at separator item text)
  of_separated text = of_or_empty text _ (of_followed text _ _ (of_item_after [] text) (λ found t. of_items_after (length t) found t))
