-- The part of a symbol.
use Rattle.irtext_base.specs.Text.{Text}
use Rattle.irtext_tokens.specs.Infix.{Reader, ◌⇒◌}
use Rattle.irtext_syntax.specs.ScalarTexts.{ScalarText}
use Rattle.irtext_parts.specs.SymbolTexts.{symbol_text_at, symbol_name_text}
use Rattle.irtext_parts.specs.declared.symbol.Symbol.{Symbol}

-- the symbol with this name
abbrev pub symbol_of : ScalarText → Symbol
symbol_of s = record { name = s }

-- `@` and a name
abbrev pub symbol_at : Reader Symbol
symbol_at = symbol_text_at ⇒ symbol_of

-- the text of a symbol
abbrev pub symbol_text : Symbol → Text
symbol_text s = symbol_name_text s.name
