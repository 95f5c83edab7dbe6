-- The bytes of an attribute's text.
use Rattle.std.proofs.Common.{◌≡◌, ◌∙◌, ◌++◌, ◌∷◌, List, ℕ, Option, map, sym, refl, ap, append_assoc}
use Rattle.std.proofs.lemmas.Str.{encodes-append}
use Rattle.std.specs.Str.{IsAscii, encode_utf8_all}
use Rattle.irtext_base.specs.Text.{Text}
use Rattle.irtext_grammar.specs.Spelling.Spell.{joined, joined_from, comma, or_question}
use Rattle.irtext_grammar.proofs.Lists.Ascii.{encodes-ascii, ascii-from}

-- the bytes of two texts, one after the other, after what is written
pub bytes_more : (old mid new : List ℕ) (s t : Text) → mid ≡ old ++ encode_utf8_all s → new ≡ mid ++ encode_utf8_all t → new ≡ old ++ encode_utf8_all (s ++ t)
bytes_more old mid new s t e f = f ∙ (ap (λ z. z ++ encode_utf8_all t) e ∙ (append_assoc old (encode_utf8_all s) (encode_utf8_all t) ∙ ap (λ z. old ++ z) (sym (encodes-append s t))))

-- the first name is written, and then the rest is all
pub names_first : (names rest : List (Option Text)) (name : Option Text) (old new : List ℕ) → names ≡ name ∷ rest → new ≡ old ++ encode_utf8_all (or_question name)
    → new ++ encode_utf8_all (joined_from comma (map or_question rest)) ≡ old ++ encode_utf8_all (joined comma (map or_question names))
names_first names rest name old new e f =
    bytes_more old new (new ++ encode_utf8_all (joined_from comma (map or_question rest))) (or_question name) (joined_from comma (map or_question rest)) f refl
    ∙ ap (λ z. old ++ encode_utf8_all (joined comma (map or_question z))) (sym e)

-- one more name is written after a comma
pub names_next : (left rest : List (Option Text)) (name : Option Text) (old mid new all : List ℕ) → left ≡ name ∷ rest → mid ≡ old ++ comma → new ≡ mid ++ encode_utf8_all (or_question name)
    → old ++ encode_utf8_all (joined_from comma (map or_question left)) ≡ all → new ++ encode_utf8_all (joined_from comma (map or_question rest)) ≡ all
names_next left rest name old mid new all e f g h =
    let tail = joined_from comma (map or_question rest) in
    bytes_more old mid (new ++ encode_utf8_all tail) comma (or_question name ++ tail) (f ∙ ap (λ z. old ++ z) (sym (encodes-ascii comma (ascii-from comma refl)))) (bytes_more mid new (new ++ encode_utf8_all tail) (or_question name) tail g refl)
    ∙ (ap (λ z. old ++ encode_utf8_all (joined_from comma (map or_question z))) (sym e) ∙ h)

-- an ASCII text, and after it another, after what is written
pub word_more : (old mid new : List ℕ) (s t : Text) → IsAscii s → mid ≡ old ++ s → new ≡ mid ++ encode_utf8_all t → new ≡ old ++ encode_utf8_all (s ++ t)
word_more old mid new s t a e f = bytes_more old mid new s t (e ∙ ap (λ z. old ++ z) (sym (encodes-ascii s a))) f

-- a text that is an ASCII text, after what is written
pub word_last : (old new : List ℕ) (s t : Text) → IsAscii s → t ≡ s → new ≡ old ++ t → new ≡ old ++ encode_utf8_all s
word_last old new s t a same e = e ∙ ap (λ z. old ++ z) (same ∙ sym (encodes-ascii s a))
