-- Between functions: what the text of an id after a lead is to the parser, if the operation must be registered in a context's dialects,
-- with the cause and place of each fault. A lead is what precedes the id of an operation: white space and the names of results. It may be
-- empty.
use Rattle.std.specs.Prelude.{cond, is_some, List, [], ◌++◌, ◌≡◌, true, false, Result, Ok, Err}
use Rattle.irtext_base.specs.Text.{Text}
use Rattle.irtext_base.specs.Format.{Id}
use Rattle.irtext_base.specs.Faults.{UnregisteredDialect, UnregisteredOp, Fault, fault_of, id_of}
use Rattle.irtext_base.specs.Answers.{Outcome, Read, Missing, Bad}
use Rattle.irtext_context.specs.Dialects.{Table}
use Rattle.irtext_context.specs.DialectTable as table
use Rattle.irtext_context.specs.DialectTable.{dialect_of, registered}
use Rattle.irtext_grammar.specs.Contexts.Formats.{op_id}
use Rattle.irtext_base.specs.Stream.{StreamView, IsAt, after_failure}
use Rattle.irtext_base.specs.Places.{IsPlaceAfter}
use Rattle.irtext_base.specs.declared.base.identifier.OpId.{OpId}
use Rattle.irtext_base.specs.declared.parsable.fault.ParseFault.{ParseFault}
use Rattle.irtext_stream.specs.declared.position.Place.{Place}

-- an id after a lead, if its operation is registered; the fault of an unknown dialect is at the id, that of an unknown operation at the
-- lead
abbrev pub registered_after : List (Text × Table) → Text → Outcome Id → Outcome Id
registered_after dialects lead (Read id taken rest) = cond (is_some (dialect_of dialects id.dialect))
    (cond (is_some (table.registered dialects (op_id id))) (Read id taken rest) (Bad (UnregisteredOp id) [])) (Bad (UnregisteredDialect id.dialect) lead)
registered_after dialects lead (Missing cause) = Missing cause
registered_after dialects lead (Bad cause upto) = Bad cause upto

module _ {S A : Type 0} (view : S → StreamView) (at : S → StreamView → S) where
  -- a committed fault with this cause at an earlier place of the text, and the stream has failed
  pub record RefusesAt (cause : Fault) (place : Place) (old : S) (fault : ParseFault A) (new : S) : Type 0 where
    pub because : fault_of fault.cause ≡ cause
    pub committed : fault.committed ≡ true
    pub position : (passed rest : Text) → passed ++ rest ≡ (view old).passed ++ (view old).rest → IsPlaceAfter place passed → IsAt fault.pos.line fault.pos.column passed
    pub left : new ≡ at old (after_failure (view old))

  -- The id is returned if its operation is registered; otherwise its dialect is unknown, at one place, or its name, at another.
  abbrev pub Registers : List (Text × Table) → Place → Place → OpId → S → Result OpId (ParseFault A) → S → Type 0
  Registers dialects start place id old (Ok i) new = (is_some (dialect_of dialects id.dialect) ≡ true) × (is_some (registered dialects id) ≡ true) × (i ≡ id) × (new ≡ old)
  Registers dialects start place id old (Err fault) new =
      cond (is_some (dialect_of dialects id.dialect)) ((is_some (registered dialects id) ≡ false) × RefusesAt (UnregisteredOp (id_of id)) start old fault new) (RefusesAt (UnregisteredDialect id.dialect) place old fault new)
