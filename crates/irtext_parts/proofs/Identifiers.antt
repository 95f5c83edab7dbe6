-- A text is an identifier exactly if its bytes are.
use Rattle.std.proofs.Common.{◌≡◌, ◌∙◌, Bool, true, false, refl, sym, ap}
use Rattle.std.proofs.lemmas.Str.{chars-encodes, chars_from_encodes, encodes-IsAscii}
use Rattle.std.specs.Str.{IsUtf8, all_scalars, encode_utf8_all}
use Rattle.irtext_base.specs.Text.{Text, is_identifier}
use Rattle.irtext_base.proofs.Characters.{identifier_every}
use Rattle.irtext_syntax.specs.NameLaws.{ascii_word}

-- an identifier is its bytes
encodes : (text : Text) → is_identifier text ≡ true → encode_utf8_all text ≡ text
encodes text e = encodes-IsAscii text (ascii_word text (identifier_every text e))

-- bytes that are an identifier are those of one
decodes : (text : Text) → all_scalars text ≡ true → IsUtf8 (encode_utf8_all text) → is_identifier (encode_utf8_all text) ≡ true → encode_utf8_all text ≡ text
decodes text s u e =
    let bytes = encode_utf8_all text in
    chars_from_encodes bytes bytes u (encodes bytes e) ∙ chars-encodes text s

pub identifier_bytes : (text : Text) → all_scalars text ≡ true → IsUtf8 (encode_utf8_all text) → is_identifier (encode_utf8_all text) ≡ is_identifier text
identifier_bytes text s u = by (is_identifier (encode_utf8_all text)) (is_identifier text) refl refl
  where
    by : (a b : Bool) → is_identifier (encode_utf8_all text) ≡ a → is_identifier text ≡ b → is_identifier (encode_utf8_all text) ≡ is_identifier text
    by true b e f = ap is_identifier (decodes text s u e)
    by false true e f = ap is_identifier (encodes text f)
    by false false e f = e ∙ sym f
