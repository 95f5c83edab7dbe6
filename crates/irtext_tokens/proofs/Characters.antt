-- The characters of a fixed text.
use Rattle.std.proofs.Common.{◌≡◌, ℕ, List}
use Rattle.std.specs.Str.{IsUtf8, encode_utf8_all}
use Rattle.irtext_base.specs.Faults.{characters}
use Rattle.irtext_stream.proofs.NotationPrinted.{word_bytes}
pub use Rattle.irtext_stream.proofs.NotationPrinted.{encodes-nil}

-- the bytes of a text's characters are the text
pub encodes-characters : (bytes : List ℕ) → IsUtf8 bytes → encode_utf8_all (characters bytes) ≡ bytes
encodes-characters = word_bytes
