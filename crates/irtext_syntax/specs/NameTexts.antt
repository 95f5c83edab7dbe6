-- Identifiers, as parts of a text.
use Rattle.std.proofs.Common.{◌≡◌, Bool, true, not, refl, codes}
use Rattle.std.specs.Coded.{Coded}
use Rattle.irtext_base.specs.Text.{Text, begins, in_word, is_identifier}
use Rattle.irtext_tokens.specs.Infix.{Reader, ◌⇒◌}
use Rattle.irtext_tokens.specs.Tokens.{identifier_at}
use Rattle.irtext_syntax.specs.TestedTexts.{TestedText, tested, tested_found, tested_is, tested_code}

-- a text that is an identifier
abbrev pub WordText : Type 0
WordText = TestedText is_identifier

-- the identifier `_`
abbrev pub underscore : WordText
underscore = record { characters = codes "_"; passes = refl }

-- the identifier with these characters; `_` if they are not those of one, which is never parsed
abbrev pub word_text : Text → WordText
word_text = tested is_identifier underscore

-- an identifier is coded as its characters
abbrev pub word_text_code : Coded WordText
word_text_code = tested_code is_identifier underscore

-- an identifier is the one with its characters
pub word_text_found : (w : WordText) → word_text w.characters ≡ w
word_text_found = tested_found is_identifier underscore

-- the identifier with these characters has these characters
pub word_text_is : (characters : Text) → is_identifier characters ≡ true → (word_text characters).characters ≡ characters
word_text_is = tested_is is_identifier underscore

-- an identifier
abbrev pub name_at : Reader WordText
name_at = identifier_at ⇒ word_text

-- the characters of an identifier
abbrev pub name_text : WordText → Text
name_text w = w.characters

-- no letter, digit or `_` comes next
abbrev pub ends_word : Text → Bool
ends_word text = not (begins in_word text)
