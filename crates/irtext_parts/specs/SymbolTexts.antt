-- Symbols, as parts of a text: `@` and an identifier, or `@` and a quoted text.
use Rattle.std.specs.Prelude.{◌∷◌, cond, codes}
use Rattle.irtext_base.specs.Text.{Text, begins, is_identifier}
use Rattle.irtext_base.specs.Quoted.{quoted}
use Rattle.irtext_base.specs.Reading.{the}
use Rattle.irtext_tokens.specs.Infix.{Reader, either, ◌▷◌, ◌⇒◌}
use Rattle.irtext_tokens.specs.Tokens.{word, identifier_at}
use Rattle.irtext_syntax.specs.QuotedParts.{characters_at}
use Rattle.irtext_syntax.specs.ScalarTexts.{ScalarText, scalar_text}

-- an identifier, by its characters
abbrev pub bare_at : Reader ScalarText
bare_at = identifier_at ⇒ scalar_text

-- a quoted text if a quotation mark comes next, and otherwise an identifier
abbrev pub symbol_name_at : Reader ScalarText
symbol_name_at = either (begins (the 34)) characters_at bare_at

-- `@` and a name
abbrev pub symbol_text_at : Reader ScalarText
symbol_text_at = word (codes "@") ▷ symbol_name_at

-- the name of a symbol: as it is, if it is an identifier, and otherwise quoted
abbrev pub symbol_name : Text → Text
symbol_name name = cond (is_identifier name) name (quoted name)

-- `@` and the name
abbrev pub symbol_name_text : ScalarText → Text
symbol_name_text s = 64 ∷ symbol_name s.characters
