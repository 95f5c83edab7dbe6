-- ASCII texts: their bytes are their characters.
use Rattle.std.proofs.Common.{◌≡◌, ◌<◌, ℕ, List, [], ◌∷◌, true, zero, suc, IsTrue, arith}
use Rattle.std.proofs.lemmas.Bool.Decides.{nat_tests}
use Rattle.irtext_base.proofs.Characters.{and_left, and_right}
use Rattle.std.proofs.lemmas.Str.{encodes-IsAscii}
use Rattle.std.proofs.lemmas.Str.Ascii.{IsAscii-nil}
use Rattle.std.specs.Char.{is_ascii}
use Rattle.std.specs.List.{list_all}
use Rattle.std.specs.Str.{IsAscii, encode_utf8_all}
use Rattle.irtext_base.proofs.Characters.{in_word_small}
use Rattle.irtext_base.specs.Text.{is_identifier, in_word, begins_word}

-- the bytes of an ASCII text
pub encodes-ascii : (text : List ℕ) → IsAscii text → encode_utf8_all text ≡ text
encodes-ascii = encodes-IsAscii

-- one more character
pub ascii-cons : (c : ℕ) (text : List ℕ) → c < 128 → IsAscii text → IsAscii (c ∷ text)
ascii-cons c text small rest zero = small
ascii-cons c text small rest (suc i) = rest i

ascii-small : (c : ℕ) → is_ascii c ≡ true → c < 128
ascii-small c e = grind (arith, nat_tests)

begins_word-small : (c : ℕ) → begins_word c ≡ true → c < 128
begins_word-small c e = grind (arith, nat_tests)

-- a text whose characters pass the test
pub ascii-from : (text : List ℕ) → list_all is_ascii text ≡ true → IsAscii text
ascii-from [] e = IsAscii-nil
ascii-from (c ∷ text) e = ascii-cons c text (ascii-small c (and_left (is_ascii c) (list_all is_ascii text) e)) (ascii-from text (and_right (is_ascii c) (list_all is_ascii text) e))

-- a word
pub ascii-word : (text : List ℕ) → list_all in_word text ≡ true → IsAscii text
ascii-word [] e = IsAscii-nil
ascii-word (c ∷ text) e = ascii-cons c text (in_word_small c (and_left (in_word c) (list_all in_word text) e)) (ascii-word text (and_right (in_word c) (list_all in_word text) e))

-- an identifier
pub ascii-identifier : (text : List ℕ) → IsTrue (is_identifier text) → IsAscii text
ascii-identifier [] e = IsAscii-nil
ascii-identifier (c ∷ text) e = ascii-cons c text (begins_word-small c (and_left (begins_word c) (list_all in_word text) e)) (ascii-word text (and_right (begins_word c) (list_all in_word text) e))
