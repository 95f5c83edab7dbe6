-- Fronts of ASCII characters: their bytes, and the identifiers among them.
use Rattle.std.proofs.Common.{◌≡◌, ℕ, ◌<◌, true, List, [], ◌∷◌, ◌++◌, sym, ◌∙◌, ap, arith}
use Rattle.std.proofs.lemmas.Bool.Decides.{nat_tests}
use Rattle.std.specs.Str.{encode_utf8_all}
use Rattle.std.specs.Char.{is_ascii_digit, is_ascii_hexdigit}
use Rattle.irtext_base.specs.Text.{Text, begins, front, after, begins_word, in_word, is_identifier}
use Rattle.irtext_base.specs.Stream.{StreamView}
use Rattle.irtext_base.specs.Places.{IsPlaceAfter}
use Rattle.irtext_base.specs.Answers.{Takes}
use Rattle.irtext_stream.specs.declared.position.Place.{Place}
use Rattle.irtext_base.proofs.Compose.{seen_after}
use Rattle.irtext_tokens.specs.Digits.{is_digit_in}
use Rattle.irtext_tokens.specs.Tokens.{has}
use Rattle.irtext_tokens.specs.declared.irfmt.parsers.digits.Radix.{Radix}
use Rattle.irtext_tokens.specs.declared.irfmt.parsers.digits.Radix.TheVariants as radix
use Rattle.irtext_stream.specs.declared.class.Class.{Class}
pub use Rattle.irtext_stream.proofs.NotationSteps.{encodes-front, list_all-front}

in_word_ascii : (c : ℕ) → in_word c ≡ true → c < 128
in_word_ascii c e = grind (arith, nat_tests)

is_ascii_digit_ascii : (c : ℕ) → is_ascii_digit c ≡ true → c < 128
is_ascii_digit_ascii c e = grind (arith, nat_tests)

begins_word_in_word : (c : ℕ) → begins_word c ≡ true → in_word c ≡ true
begins_word_in_word c e = grind (arith, nat_tests)

pub encodes-front_word : (text : Text) → encode_utf8_all (front in_word text) ≡ front in_word text
encodes-front_word = encodes-front in_word in_word_ascii

pub encodes-front_digits : (text : Text) → encode_utf8_all (front is_ascii_digit text) ≡ front is_ascii_digit text
encodes-front_digits = encodes-front is_ascii_digit is_ascii_digit_ascii

is_ascii_hexdigit_ascii : (c : ℕ) → is_ascii_hexdigit c ≡ true → c < 128
is_ascii_hexdigit_ascii c e = grind (arith, nat_tests)

pub encodes-front_hexdigits : (text : Text) → encode_utf8_all (front is_ascii_hexdigit text) ≡ front is_ascii_hexdigit text
encodes-front_hexdigits = encodes-front is_ascii_hexdigit is_ascii_hexdigit_ascii

encodes-digits : (r : Radix) (text : Text) → encode_utf8_all (front (is_digit_in r) text) ≡ front (is_digit_in r) text
encodes-digits radix.Decimal = encodes-front_digits
encodes-digits radix.Hexadecimal = encodes-front_hexdigits

-- the word at the beginning of a text is an identifier
pub is_identifier-front : (text : Text) → begins begins_word text ≡ true → is_identifier (front in_word text) ≡ true
is_identifier-front [] e = absurd (cc)
is_identifier-front (c ∷ text) e = rw (begins_word_in_word c e) (rw e (list_all-front in_word text))

-- the text since a place is what was taken there
pub taken_since : {S : Type 0} (view : S → StreamView) (at : S → StreamView → S) → ((s : S) (v : StreamView) → view (at s v) ≡ v) → ((s : S) (v w : StreamView) → at (at s v) w ≡ at s w) → (old mid : S) (place : Place) (bytes : List ℕ) (t r : Text) → Takes view at t r old mid → IsPlaceAfter place (view old).passed → ((passed taken : Text) → passed ++ taken ≡ (view mid).passed → IsPlaceAfter place passed → bytes ≡ encode_utf8_all taken) → bytes ≡ encode_utf8_all t
taken_since view at view_at at_at old mid place bytes t r k p h = h (view old).passed t (sym (ap (λ s. s.passed) (seen_after view at view_at at_at old mid t r k))) p

-- the text since a place is the digits that were passed there
pub digits_since : {S : Type 0} (view : S → StreamView) (at : S → StreamView → S) → ((s : S) (v : StreamView) → view (at s v) ≡ v) → ((s : S) (v w : StreamView) → at (at s v) w ≡ at s w) → (r : Radix) (class : Class) (old mid : S) (place : Place) (bytes text : List ℕ) → has class ≡ is_digit_in r
    → Takes view at (front (has class) (view old).rest) (after (has class) (view old).rest) old mid → IsPlaceAfter place (view old).passed → ((passed taken : Text) → passed ++ taken ≡ (view mid).passed → IsPlaceAfter place passed → text ≡ encode_utf8_all taken) → bytes ≡ text → bytes ≡ front (is_digit_in r) (view old).rest
digits_since view at view_at at_at r class old mid place bytes text is k p h e =
    let rest = (view old).rest in
    e ∙ (taken_since view at view_at at_at old mid place text (front (has class) rest) (after (has class) rest) k p h ∙ (ap (λ t. encode_utf8_all (front t rest)) is ∙ encodes-digits r rest))
