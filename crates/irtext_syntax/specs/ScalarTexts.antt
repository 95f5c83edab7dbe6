-- For callers: texts of Unicode scalar values, which string attributes store.
use Rattle.std.proofs.Common.{◌≡◌, true, [], refl}
use Rattle.std.specs.Coded.{Coded}
use Rattle.std.specs.Str.{all_scalars}
use Rattle.irtext_base.specs.Text.{Text}
use Rattle.irtext_syntax.specs.TestedTexts.{TestedText, tested, tested_found, tested_is, tested_same, tested_code}

-- a text in which each character is a Unicode scalar value
abbrev pub ScalarText : Type 0
ScalarText = TestedText all_scalars

-- the empty text
abbrev pub empty_text : ScalarText
empty_text = record { characters = []; passes = refl }

-- the text of these characters; the empty text if one of them is not a scalar value, which is never parsed
abbrev pub scalar_text : Text → ScalarText
scalar_text = tested all_scalars empty_text

-- a text is the one with its characters
pub scalar_text_found : (s : ScalarText) → scalar_text s.characters ≡ s
scalar_text_found = tested_found all_scalars empty_text

-- the text of these characters has these characters, if they are scalar values
pub scalar_text_is : (characters : Text) → all_scalars characters ≡ true → (scalar_text characters).characters ≡ characters
scalar_text_is = tested_is all_scalars empty_text

-- two texts with the same characters are equal
pub scalar_text_same : (s t : ScalarText) → s.characters ≡ t.characters → s ≡ t
scalar_text_same = tested_same all_scalars empty_text

-- a text is coded as its characters
abbrev pub scalar_text_code : Coded ScalarText
scalar_text_code = tested_code all_scalars empty_text
