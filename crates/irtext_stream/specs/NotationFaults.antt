-- What the parsers of notations return, and the texts of their errors.
use Rattle.std.specs.Prelude.{◌≡◌, ℕ, true, false, List, ◌∷◌, ◌++◌, codes, Result, Ok, Err}
use Rattle.std.specs.Char.{is_ascii_graphic}
use Rattle.irtext_stream.specs.Text.{Text, begins}
use Rattle.irtext_stream.specs.Stream.{StreamView, IsAt}
use Rattle.irtext_stream.specs.Places.{position_text}
use Rattle.irtext_stream.specs.NotationPieces.{Meaning, means, unmet}
use Rattle.irtext_stream.specs.declared.position.SourcePosition.{SourcePosition}
use Rattle.irtext_stream.specs.declared.notation.fault.NotationPart.{NotationPart}
use Rattle.irtext_stream.specs.declared.notation.fault.NotationPart.TheVariants as part
use Rattle.irtext_stream.specs.declared.notation.fault.NotationFault.{NotationFault}
use Rattle.irtext_stream.specs.declared.notation.fault.NotationFault.TheVariants as fault

-- what is expected, in words
abbrev pub part_text : NotationPart → List ℕ
part_text part.Directive = codes "a directive"
part_text part.Index = codes "an index"
part_text part.KeyOrIndex = codes "a key or an index"
part_text part.Character = codes "a printable character"
part_text part.Backquote = codes "a backquote"
part_text part.Brace = codes "`}`"
part_text part.Parenthesis = codes "`)`"
part_text part.End = codes "the end"

-- the message of an error
abbrev pub notation_fault_text : NotationFault → List ℕ
notation_fault_text (fault.Unexpected at expected) = position_text at ++ (codes ": expected " ++ part_text expected)
notation_fault_text (fault.Memory e) = codes "Out of memory"

-- the error is that an allocation was refused
abbrev pub IsMemory : NotationFault → Type 0
IsMemory (fault.Unexpected at expected) = ⊥
IsMemory (fault.Memory e) = Unit {0}

-- the rest of the whole text begins at this line and this column of it
pub record BeginsAt (rest whole : Text) (at : SourcePosition) : Type 0 where
  pub passed : Text
  pub same : passed ++ rest ≡ whole
  pub place : IsAt at.line at.column passed

-- the error says that this part is expected where the rest of the whole text begins
abbrev pub IsUnmet : Text → NotationPart → Text → NotationFault → Type 0
IsUnmet whole expected rest (fault.Unexpected at e) = (e ≡ expected) × BeginsAt rest whole at
IsUnmet whole expected rest (fault.Memory e) = ⊥

-- the error says what the meaning lacks, and where in the whole text; or that an allocation failed
abbrev pub Faults : {X : Type 0} → Text → Meaning X → NotationFault → Type 0
Faults whole m (fault.Unexpected at expected) = (rest : Text) × (m ≡ unmet expected rest) × BeginsAt rest whole at
Faults whole m (fault.Memory e) = Unit {0}

-- the whole text of a stream
abbrev pub whole : StreamView → Text
whole v = v.passed ++ v.rest

-- the next character is not printable ASCII, and was not consumed
abbrev pub IsNoLetter : StreamView → StreamView → Type 0
IsNoLetter old new = (begins is_ascii_graphic old.rest ≡ false) × (new ≡ old)

-- the next character, which is this one and printable ASCII, was consumed
abbrev pub TakesLetter : ℕ → StreamView → StreamView → Type 0
TakesLetter c old new = (old.rest ≡ c ∷ new.rest) × (is_ascii_graphic c ≡ true) × (whole new ≡ whole old)

-- what was parsed is the value of the meaning, and the stream is at the text after it, in the same whole text
abbrev pub Reads : {X Y : Type 0} → (Y → X) → Text → Meaning X → Result Y NotationFault → StreamView → Type 0
Reads see text m (Ok y) new = (m ≡ means (see y) new.rest) × (whole new ≡ text)
Reads see text m (Err e) new = Faults text m e
