-- For callers: the indices of marks, what a parser consumes of the stream and which faults it returns, and what an entry gives, with the
-- paths of a context.
use Rattle.std.specs.Prelude.{◌≡◌, ℕ, ◌⊎◌, Bool, true, false, Option, Some, None, List, [], ◌∷◌, ◌++◌, map}
use Rattle.std.specs.Option.{option_map}
use Rattle.irtext_base.specs.Text.{Text}
use Rattle.irtext_base.specs.Stream.{StreamView, IsAt}
use Rattle.irtext_base.specs.Faults.{Fault, Memory, fault_of}
use Rattle.irtext_base.specs.Answers.{Takes}
use Rattle.irtext_base.specs.declared.location.Location.{Location}
use Rattle.irtext_base.specs.declared.parsable.fault.ParseFault.{ParseFault}
use Rattle.irtext_base.specs.Moves.{all_kept}
use Rattle.irtext_base.specs.Paths.{Written}
use Rattle.irtext_grammar.specs.Contexts.Held.{location_over}
use Rattle.irtext_grammar.specs.Readers.NewPaths.{known_location}
use Rattle.irtext_grammar.specs.Readers.Streams.{itself, replaced}

-- the indices of marks
abbrev pub indices_of : {X : Type 0} → List (ℕ × X) → List ℕ
indices_of marks = map (λ m. m.0) marks

-- some characters were consumed, and whether the stream has failed is unchanged
pub record Moves (old new : StreamView) : Type 0 where
  pub taken : Text
  pub takes : Takes itself replaced taken new.rest old new

-- the fault has this cause, is committed or not, and is at the place after these characters
pub record FaultAt {A : Type 0} (committed : Bool) (cause : Fault) (upto : Text) (old : StreamView) (fault : ParseFault A) : Type 0 where
  pub because : fault_of fault.cause ≡ cause
  pub flag : fault.committed ≡ committed
  pub place : IsAt fault.pos.line fault.pos.column (old.passed ++ upto)

-- an allocation failed; this fault is always committed
pub record IsOutOfMemory {A : Type 0} (fault : ParseFault A) : Type 0 where
  pub because : fault_of fault.cause ≡ Memory
  pub flag : fault.committed ≡ true

-- an allocation failed, or the fault is one of those that are allowed, committed or not
abbrev pub Faults : {A : Type 0} → Bool → (Fault → Text → Type 0) → StreamView → ParseFault A → Type 0
Faults committed Allowed old fault = IsOutOfMemory fault ⊎ ((cause : Fault) × (upto : Text) × Allowed cause upto × FaultAt committed cause upto old fault)

module _ {A : Type 0} where
  -- whether the keys of the files in what an entry gives are below this count
  abbrev pub known_given : ℕ → Option (Location A) → Bool
  known_given count None = true
  known_given count (Some l) = known_location count l

  -- the location that an entry gives, in the form of its text, with these paths
  abbrev pub given_over : List (List ℕ) → Option (Location A) → Option (Written A)
  given_over paths l = option_map (location_over paths) l

  -- the paths, once those of what an entry gives are kept
  abbrev pub given_kept : List (List ℕ) → Option (Written A) → List (List ℕ)
  given_kept paths None = paths
  given_kept paths (Some l) = all_kept paths l

-- whether some mark is recorded
abbrev pub is_noted : {X : Type 0} → List X → Bool
is_noted [] = false
is_noted (m ∷ ms) = true
