-- Positions in a stream: which texts are before and after them.
use Rattle.std.specs.Prelude.{ℕ, List, ◌≡◌, ◌++◌, codes, length}
use Rattle.std.specs.Fmt.{signed_decimal}
use Rattle.std.specs.Hash as fed
use Rattle.std.specs.Hash.{HashWrites}
use Rattle.std.specs.Str.{encode_utf8_all}
use Rattle.irtext_stream.specs.Text.{Text}
use Rattle.irtext_stream.specs.Stream.{StreamView}
use Rattle.irtext_stream.specs.declared.position.Place.{Place}
use Rattle.irtext_stream.specs.declared.position.SourcePosition.{SourcePosition}

-- the position after this text, which is at the beginning of the stream
abbrev pub IsPlaceAfter : Place → Text → Type 0
IsPlaceAfter place passed = place.offset ≡ length (encode_utf8_all passed)

-- this holds of the texts before and after a byte offset of a text
abbrev pub AtOffset : ℕ → Text → (Text → Text → Type 0) → Type 0
AtOffset offset text Holds = (passed rest : Text) → passed ++ rest ≡ text → offset ≡ length (encode_utf8_all passed) → Holds passed rest

-- this holds of the texts before and after a position in the stream
abbrev pub AtPlace : Place → StreamView → (Text → Text → Type 0) → Type 0
AtPlace place v Holds = AtOffset place.offset (v.passed ++ v.rest) Holds

-- this holds of the text before an earlier position and of the text from there to the current position
abbrev pub SincePlace : Place → StreamView → (Text → Text → Type 0) → Type 0
SincePlace place v Holds = AtOffset place.offset v.passed Holds

-- the position is at or before the stream's current position
abbrev pub HasPassed : Place → StreamView → Type 0
HasPassed place v = (passed taken : Text) × (passed ++ taken ≡ v.passed) × IsPlaceAfter place passed

-- the position is one in the stream's text
pub record IsPlaceOf (place : Place) (v : StreamView) : Type 0 where
  pub passed : Text
  pub rest : Text
  pub same : passed ++ rest ≡ v.passed ++ v.rest
  pub positioned : IsPlaceAfter place passed

-- the text of a position: its line and its column
abbrev pub position_text : SourcePosition → List ℕ
position_text at = codes "line: " ++ (signed_decimal at.line ++ (codes ", column: " ++ signed_decimal at.column))

-- what a position feeds to a hasher: its line and its column
abbrev pub position_writes : SourcePosition → HashWrites
position_writes at = fed.i32 at.line ++ fed.i32 at.column
