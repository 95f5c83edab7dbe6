-- For callers: what an error of reading a text says.
use Rattle.std.specs.Prelude.{◌≡◌, ℕ, List, Option, IfSome}
use Rattle.std.specs.Str.{IsUtf8}
use Rattle.std.specs.Io.KnownBytes.{IsAtEnd}
use Rattle.irtext_formatter.specs.declared.input.InputFault.{InputFault}
use Rattle.irtext_formatter.specs.declared.input.InputFault.TheVariants.{Memory, Unreadable, NotUtf8}

-- The reader had these bytes left before the call and after it. If the bytes are not UTF-8, they are all that was left, and the reader is
-- at its end. Out of memory and a failed read are possible at any time.
abbrev pub IsInputFault : Option (List ℕ) → Option (List ℕ) → InputFault → Type 0
IsInputFault before after Memory = Unit {0}
IsInputFault before after (Unreadable error) = Unit {0}
IsInputFault before after (NotUtf8 bytes) = IfSome before (λ xs. bytes.items ≡ xs) × (IsUtf8 bytes.items → ⊥) × IsAtEnd after
