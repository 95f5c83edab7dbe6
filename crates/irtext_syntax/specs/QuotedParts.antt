-- Quoted texts, as parts of a text.
use Rattle.irtext_base.specs.Text.{Text}
use Rattle.irtext_base.specs.Quoted.{quoted}
use Rattle.irtext_tokens.specs.Infix.{Reader, ◌⇒◌}
use Rattle.irtext_tokens.specs.QuotedTexts.{quoted_at}
use Rattle.irtext_syntax.specs.ScalarTexts.{ScalarText, scalar_text}

-- a quoted text, by its characters
abbrev pub characters_at : Reader ScalarText
characters_at = quoted_at ⇒ scalar_text

-- the characters between quotation marks
abbrev pub characters_text : ScalarText → Text
characters_text s = quoted s.characters
