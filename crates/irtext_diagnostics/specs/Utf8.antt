-- Bytes that are not UTF-8.
use Rattle.std.specs.Prelude.{◌≡◌, ℕ, List, length, take, slice_index}
use Rattle.std.specs.Str.{chars, IsValidUpTo}
use Rattle.irtext_stream.specs.Stream.{IsAt}
use Rattle.irtext_stream.specs.declared.position.SourcePosition.{SourcePosition}

-- the bytes begin with this text, no longer beginning is UTF-8, and the byte after it is at this position
pub record IsRejected (bytes valid : List ℕ) (position : SourcePosition) (byte : ℕ) : Type 0 where
  pub front : valid ≡ take (length valid) bytes
  pub bound : IsValidUpTo bytes (length valid)
  pub next : byte ≡ slice_index bytes (length valid)
  pub placed : IsAt position.line position.column (chars valid)
