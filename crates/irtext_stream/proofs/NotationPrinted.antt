-- The bytes of what is printed.
use Rattle.std.proofs.Common.{◌≡◌, ℕ, ◌<◌, ◌^◌, true, false, cond, ◌==◌, List, [], ◌∷◌, ◌++◌, length, refl, sym, ◌∙◌, ap, ap₂, arith, append-nil, length-append, append_assoc}
use Rattle.std.proofs.lemmas.Bool.Decides.{nat_tests}
use Rattle.std.proofs.lemmas.Fmt.{IsAscii-decimal}
use Rattle.std.proofs.lemmas.Str.{encodes-append, encodes-chars, encodes-IsAscii, length-encode, len_utf8_bounds}
use Rattle.std.specs.Prelude.{codes}
use Rattle.std.specs.Fmt.{decimal}
use Rattle.std.specs.Char.{encode_utf8, is_ascii}
use Rattle.std.specs.List.{list_all}
use Rattle.std.specs.Str.{chars, IsUtf8, encode_utf8_all}
use Rattle.irtext_stream.specs.Text.{Text}
use Rattle.irtext_stream.specs.NotationPieces.{characters, spelled}
use Rattle.irtext_stream.proofs.NotationSteps.{encodes-ascii}

-- the bytes of a text's characters are the text
pub word_bytes : (bytes : List ℕ) → IsUtf8 bytes → encode_utf8_all (characters bytes) ≡ bytes
word_bytes bytes u =
    elim (list_all is_ascii bytes) as (λ b. list_all is_ascii bytes ≡ b → encode_utf8_all (cond b bytes (chars bytes)) ≡ bytes) [
      | true ↦ (λ e. encodes-ascii bytes e)
      | false ↦ (λ e. encodes-chars bytes u)
    ] refl

-- no bytes, no characters
pub encodes-nil : (text : Text) → length (encode_utf8_all text) ≡ 0 → text ≡ []
encodes-nil [] e = refl
encodes-nil (c ∷ text) e = absurd (omega (arith, e, length-append (encode_utf8 c) (encode_utf8_all text), length-encode c, len_utf8_bounds c))

-- an index after a text
pub index_bytes : (opening : List ℕ) (i : ℕ) → IsUtf8 opening → i < 2 ^ 64 → encode_utf8_all (characters opening ++ decimal i) ≡ opening ++ decimal i
index_bytes opening i u small = encodes-append (characters opening) (decimal i) ∙ ap₂ (λ x y. x ++ y) (word_bytes opening u) (encodes-IsAscii (decimal i) (IsAscii-decimal i small))

-- and a text after it
pub closed_bytes : (opening closing : List ℕ) (i : ℕ) → IsUtf8 closing → encode_utf8_all (characters opening ++ (decimal i ++ characters closing)) ≡ encode_utf8_all (characters opening ++ decimal i) ++ closing
closed_bytes opening closing i u =
    ap encode_utf8_all (sym (append_assoc (characters opening) (decimal i) (characters closing))) ∙ (encodes-append (characters opening ++ decimal i) (characters closing) ∙ ap (λ z. encode_utf8_all (characters opening ++ decimal i) ++ z) (word_bytes closing u))

-- a backquote twice
pub twice_bytes : (c : ℕ) → c ≡ 96 → encode_utf8_all (spelled c) ≡ codes "``"
twice_bytes c e = ap (λ z. encode_utf8_all (spelled z)) e ∙ encodes-ascii (codes "``") refl

-- any other character once
pub once_bytes : (c : ℕ) → (c ≡ 96 → ⊥) → encode_utf8_all (spelled c) ≡ encode_utf8 c
once_bytes c n = let e : (c == 96) ≡ false = grind (arith, nat_tests) in ap (λ b. encode_utf8_all (cond b (c ∷ c ∷ []) (c ∷ []))) e ∙ append-nil (encode_utf8 c)

-- a literal between backquotes
pub literal_bytes : (s : Text) → encode_utf8_all (codes "`" ++ (s ++ codes "`")) ≡ (codes "`" ++ encode_utf8_all s) ++ codes "`"
literal_bytes s =
    encodes-append (codes "`") (s ++ codes "`") ∙ (ap₂ (λ x y. x ++ y) (encodes-ascii (codes "`") refl) (encodes-append s (codes "`") ∙ ap (λ z. encode_utf8_all s ++ z) (encodes-ascii (codes "`") refl)) ∙ sym (append_assoc (codes "`") (encode_utf8_all s) (codes "`")))
