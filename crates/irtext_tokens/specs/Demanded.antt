-- The outcomes of parsers of several tokens, each of which is required.
use Rattle.std.specs.Prelude.{ℕ, codes}
use Rattle.irtext_base.specs.Text.{Text}
use Rattle.irtext_tokens.specs.Infix.{Reader, ◌▷◌}
use Rattle.irtext_tokens.specs.Tokens.{space_at, word, identifier_at, number_at}

-- a fixed text with optional white space before and after it
abbrev pub spaced_at : Text → Reader Unit
spaced_at text = space_at ▷ word text ▷ space_at

-- `!` and an index
abbrev pub index_at : Reader ℕ
index_at = word (codes "!") ▷ number_at

-- `@` and a name
abbrev pub symbol_at : Reader Text
symbol_at = word (codes "@") ▷ identifier_at
