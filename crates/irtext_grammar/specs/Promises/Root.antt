-- For callers: the position and the location of a place of a text, and the cause and the place of a failure.
use Rattle.std.specs.Prelude.{◌≡◌, ◌⊎◌, ℕ, ◌-◌, Option, Some, None, List, [], length, take}
use Rattle.irtext_base.specs.Text.{Text, line_after, column_after}
use Rattle.irtext_base.specs.Faults as fault
use Rattle.irtext_base.specs.Faults.{Fault}
use Rattle.irtext_base.specs.Stream.{cut, IsAt}
use Rattle.irtext_base.specs.Paths.{Written, path_of}
use Rattle.irtext_base.specs.Locations.{src_pos}
use Rattle.irtext_base.specs.declared.location.Source.{Source}
use Rattle.irtext_base.specs.declared.parsable.fault.ParseFault.{ParseFault}
use Rattle.irtext_stream.specs.declared.position.SourcePosition.{SourcePosition}
use Rattle.irtext_grammar.specs.Promises.Section.{IsOutOfMemory}
use Rattle.irtext_grammar.specs.Contexts.Held.{IsPosition}
use Rattle.irtext_grammar.specs.Names.Script as script
use Rattle.irtext_grammar.specs.Names.Script.{Cause}

-- the position after a text
abbrev pub position_after : Text → SourcePosition
position_after text = record { line = cut (line_after text); column = cut (column_after text) }

-- the location of a place of a text, with these paths; a place is the number of characters from it to the end
abbrev pub location_of : {A : Type 0} → List (List ℕ) → Source → Text → ℕ → Written A
location_of paths source text place = src_pos (path_of paths source) (position_after (take (length text - place) text))

-- the cause that parsers return for this failure
abbrev pub IsCause : Cause Text → Fault → Type 0
IsCause (script.ResultCount types names) cause = cause ≡ fault.ResultCount types names
IsCause (script.NoActiveScope n) cause = cause ≡ fault.NoActiveScope n
IsCause (script.UnresolvedReference n) cause = cause ≡ fault.Unresolved n
IsCause (script.MultipleDefinitions n) cause = cause ≡ fault.MultipleDefinitions n
IsCause script.NotIsolated cause = cause ≡ fault.NotIsolated
IsCause (script.DuplicateIndex i) cause = cause ≡ fault.DuplicateIndex i
IsCause (script.UnknownIndex i) cause = cause ≡ fault.UnknownIndex i
IsCause (script.UnknownPrintOnce i) cause = cause ≡ fault.UnknownPrintOnce i
IsCause (script.ReservedKey key) cause = cause ≡ fault.ReservedKey key

-- the position is that of the place of the failure, or the beginning of the text if the failure has no place
abbrev pub IsPlace : Text → Option ℕ → SourcePosition → Type 0
IsPlace text None at = IsAt at.line at.column []
IsPlace text (Some place) at = IsPosition text place at

-- an allocation failed, which is a committed fault, or the fault is as stated
abbrev pub UnlessMemory : {A : Type 0} → (ParseFault A → Type 0) → ParseFault A → Type 0
UnlessMemory says f = IsOutOfMemory f ⊎ says f
