-- Errors as committed parse errors.
use Rattle.std.specs.Prelude.{true, pos, Result, Ok, Err}
use Rattle.irtext_base.specs.declared.location.Location.{Location, SrcPos}
use Rattle.irtext_stream.specs.declared.position.SourcePosition.{SourcePosition}
use Rattle.irtext_base.specs.declared.parsable.fault.ParseFault.{ParseFault}
use Rattle.irtext_base.specs.declared.result.Error.{Error}

module _ {A : Type 0} where
  -- the position that a location has in a source; line 1, column 1 for any other location
  abbrev pub place_of : Location A → SourcePosition
  place_of (SrcPos source at) = at
  place_of _ = record { line = pos 1; column = pos 1 }

  -- the committed parse error of an error: its cause, at the position of its location
  abbrev pub fault_from : Error A → ParseFault A
  fault_from error = record { pos = place_of error.loc; cause = error.err; committed = true }

  -- a value unchanged, and an error as its committed parse error
  abbrev pub committed : {X : Type 0} → Result X (Error A) → Result X (ParseFault A)
  committed (Ok x) = Ok x
  committed (Err error) = Err (fault_from error)
