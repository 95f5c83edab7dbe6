-- Between functions: the id of an operation, looked up by its text, and what precedes it.
use Rattle.std.specs.Prelude.{◌≡◌, ℕ, Bool, false, List, Some, Result, Ok, Err}
use Rattle.irtext_base.specs.Text.{Text}
use Rattle.irtext_base.specs.Stream.{StreamView}
use Rattle.irtext_base.specs.Answers.{Read, Takes, Answers}
use Rattle.irtext_base.specs.Faults.{id_of}
use Rattle.irtext_base.specs.Format.{Id, Accepted}
use Rattle.irtext_base.specs.Places.{IsPlaceAfter}
use Rattle.irtext_base.specs.declared.base.identifier.OpId.{OpId}
use Rattle.irtext_base.specs.declared.parsable.fault.ParseFault.{ParseFault}
use Rattle.irtext_stream.specs.declared.position.Place.{Place}
use Rattle.irtext_context.specs.DialectTable.{registered}
use Rattle.irtext_context.specs.Dialects.{Table, known_of}
use Rattle.irtext_base.specs.FormatViews.{format_of}
use Rattle.irtext_context.specs.declared.dialect.OpInfo.{OpInfo}
use Rattle.irtext_tokens.specs.Tokens.{id_at}
use Rattle.irtext_grammar.specs.Grammar.Tree.{Name}
use Rattle.irtext_grammar.specs.Readers.Parts.{after_lead, is_led}
use Rattle.irtext_grammar.specs.Readers.Operations.{registered_after}
use Rattle.irtext_grammar.specs.declared.parsed.ReadName.{ReadName}
use Rattle.irtext_grammar.specs.Parsed.{Represents, Each}

-- the id that comes next was consumed
pub record TakesId {S : Type 0} (view : S → StreamView) (at : S → StreamView → S) (old : S) (id : OpId) (new : S) : Type 0 where
  pub taken : Text
  pub read : id_at (view old).rest ≡ Read (id_of id) taken (view new).rest
  pub takes : Takes view at taken (view new).rest old new

-- this is the dialects' information about a registered operation, whose format is accepted
pub record IsKnown (dialects : List (Text × Table)) (id : OpId) (info : OpInfo) : Type 0 where
  pub known : registered dialects id ≡ Some (known_of info)
  pub accepted : Accepted (format_of info.format)

-- the id in a result that has an id and something more
abbrev pub id_in : {X E : Type 0} → Result (OpId × X) E → Result OpId E
id_in (Ok op) = Ok op.0
id_in (Err fault) = Err fault

-- the names of the results represent these, and the id is this one
abbrev pub IsLed : {X : Type 0} → List Text → Text → List ReadName × OpId × X → List (Name ℕ) × Id → Type 0
IsLed names text op led = Each (Represents names text) op.0 led.0 × (id_of op.1 ≡ led.1)

-- After any lead, which begins at a place and is empty or not, the result is the id of a registered operation, or its fault. A lead is
-- what precedes an id: white space and the names of results.
pub record AnswersLed {S A : Type 0} (view : S → StreamView) (at : S → StreamView → S) (dialects : List (Text × Table)) (start : Place) (led : Bool) (mid : S) (result : Result OpId (ParseFault A)) (new : S) : Type 0 where
  pub answers : (old : S) (lead : Text) → (view old).failed ≡ false → Takes view at lead (view mid).rest old mid → led ≡ is_led lead → IsPlaceAfter start (view old).passed
      → Answers view at id_of (registered_after dialects lead (after_lead lead (id_at (view mid).rest))) old result new
