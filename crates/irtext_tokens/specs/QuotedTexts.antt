-- Quoted strings: the outcome of their parser on a text. A unit is an escape, or a character that denotes itself.
use Rattle.std.specs.Prelude.{ℕ, cond, ◌==◌, Option, Some, None, [], ◌∷◌, ◌++◌, codes}
use Rattle.std.specs.Char.{is_ascii_hexdigit}
use Rattle.std.specs.Str.Parse.{digits_value}
use lib.Utf8.{scalar}
use Rattle.irtext_base.specs.Text.{Text, front, after}
pub use Rattle.irtext_stream.specs.Text.{is_plain}
use Rattle.irtext_base.specs.Stream.{first_of}
use Rattle.irtext_base.specs.Faults.{Word, AHexadecimalDigit, AnEscapedCharacter, Unexpected, BadEscape, BadUnicodeEscape}
use Rattle.irtext_base.specs.Answers.{Outcome, Read, Missing, Bad, prefixed, mapped}
use Rattle.irtext_tokens.specs.Infix.{Reader, ◌▷◌}
use Rattle.irtext_tokens.specs.Tokens.{word}

-- the character that this character denotes after a backslash, if it is an escape
abbrev pub escape_of : ℕ → Option ℕ
escape_of e = cond (e == 92) (Some 92) (cond (e == 34) (Some 34) (cond (e == 39) (Some 39) (cond (e == 48) (Some 0) (cond (e == 110) (Some 10) (cond (e == 114) (Some 13) (cond (e == 116) (Some 9) None))))))

-- a backslash and a character, as the one that they denote; if they denote none, the error is at the backslash
abbrev pub escaped : Option ℕ → ℕ → Text → Outcome ℕ
escaped (Some c) e text = Read c (92 ∷ e ∷ []) text
escaped None e text = Bad (BadEscape e) []

-- the character with this code, if there is one
abbrev pub character_of : Option ℕ → Option ℕ
character_of None = None
character_of (Some n) = cond (scalar n) (Some n) None

-- hexadecimal digits in braces denote the character with that code; if there is none, the error is at the backslash
abbrev pub named : Text → Text → Outcome ℕ
named digits text = cond (scalar (digits_value 16 digits)) (Read (digits_value 16 digits) (codes "\\u{" ++ (digits ++ codes "}")) text) (Bad (BadUnicodeEscape digits) [])

-- after the hexadecimal digits a closing brace is required
abbrev pub closed : Text → Text → Outcome ℕ
closed digits [] = Bad (Unexpected None (Word (codes "}"))) (codes "\\u{" ++ digits)
closed digits (c ∷ text) = cond (c == 125) (named digits text) (Bad (Unexpected (Some c) (Word (codes "}"))) (codes "\\u{" ++ digits))

-- after the opening brace one hexadecimal digit or more is required
abbrev pub braced : Text → Text → Outcome ℕ
braced [] text = Bad (Unexpected (first_of text) AHexadecimalDigit) (codes "\\u{")
braced (d ∷ digits) text = closed (d ∷ digits) text

-- after a backslash and `u` an opening brace is required
abbrev pub unicode_at : Text → Outcome ℕ
unicode_at [] = Bad (Unexpected None (Word (codes "{"))) (codes "\\u")
unicode_at (c ∷ text) = cond (c == 123) (braced (front is_ascii_hexdigit text) (after is_ascii_hexdigit text)) (Bad (Unexpected (Some c) (Word (codes "{"))) (codes "\\u"))

-- after a backslash a character is required
abbrev pub escape_at : Text → Outcome ℕ
escape_at [] = Bad (Unexpected None AnEscapedCharacter) (codes "\\")
escape_at (e ∷ text) = cond (e == 117) (unicode_at text) (escaped (escape_of e) e text)

-- a unit; at the end of the text, the closing quotation mark is missing
unfoldable pub unit_at : Text → Outcome ℕ
unit_at [] = Bad (Unexpected None (Word (codes "\""))) []
unit_at (c ∷ text) = cond (c == 92) (escape_at text) (Read c (c ∷ []) text)

-- the text without its first character
abbrev pub after_first : Text → Text
after_first [] = []
after_first (c ∷ text) = text

-- a unit and the units after it, which are given by a function of the unit's characters but the first
abbrev pub unit_before : Outcome ℕ → (Text → Outcome Text) → Outcome Text
unit_before (Read c taken text) next = prefixed taken (mapped (λ cs. c ∷ cs) (next (after_first taken)))
unit_before (Missing cause) next = Missing cause
unit_before (Bad cause upto) next = Bad cause upto

-- the characters that units denote, up to the first quotation mark that is not part of a unit, which is consumed too; characters left
-- over from the unit before are skipped
abbrev pub units_at : Text → Text → Outcome Text
units_at left [] = Bad (Unexpected None (Word (codes "\""))) []
units_at [] (c ∷ text) = cond (c == 34) (Read [] (c ∷ []) text) (unit_before (unit_at (c ∷ text)) (λ left. units_at left text))
units_at (d ∷ left) (c ∷ text) = units_at left text

-- a quotation mark, units, and the next quotation mark
unfoldable pub quoted_at : Reader Text
quoted_at = word (codes "\"") ▷ units_at []
