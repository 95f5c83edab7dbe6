-- How the text of an identifier is stored.
use Rattle.std.specs.Prelude.{ℕ, List, string_bytes}
use Rattle.irtext_base.specs.declared.base.identifier.Word.{Word}
use Rattle.irtext_base.specs.declared.base.identifier.Word.TheVariants.{Short, Long}

-- the bytes of a word, whether it is stored in place or in a string
abbrev pub word_bytes : Word → List ℕ
word_bytes (Short text) = text.bytes
word_bytes (Long text) = string_bytes text
