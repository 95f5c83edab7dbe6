-- How a text is stored.
use Rattle.std.specs.Prelude.{ℕ, List, string_bytes}
use Rattle.irtext_interner.specs.declared.text.Kept.{Kept}
use Rattle.irtext_interner.specs.declared.text.Kept.TheVariants.{Short, Long}

-- the bytes of a text, whether it is stored in place or in a string
abbrev pub kept_bytes : Kept → List ℕ
kept_bytes (Short text) = text.bytes
kept_bytes (Long text) = string_bytes text
