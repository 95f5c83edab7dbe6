-- What parsers of tokens do to a stream, as their contracts state it.
use Rattle.std.specs.Prelude.{ℕ, Bool, ◌⊎◌, Result}
use Rattle.irtext_base.specs.Text.{Text, front, after}
use Rattle.irtext_base.specs.Stream.{StreamView}
use Rattle.irtext_base.specs.Faults.{Fault}
use Rattle.irtext_base.specs.Answers.{Outcome, Answers, NeedsNoMemory, Takes, RunsOutHere, FailsAfter, unless_failed}
use Rattle.irtext_base.specs.declared.parsable.fault.ParseFault.{ParseFault}

-- the stream consumed the longest run of characters of a kind that came next
abbrev pub TakesFront : {S : Type 0} → (S → StreamView) → (S → StreamView → S) → (ℕ → Bool) → S → S → Type 0
TakesFront view at kind old new = Takes view at (front kind (view old).rest) (after kind (view old).rest) old new

-- the result, seen by `see`, is what `outcome` gives for the text, and on a failed stream the error `StreamFailed`
abbrev pub ReadsAs : {S A X Y : Type 0} → (S → StreamView) → (S → StreamView → S) → (Y → X) → (Text → Outcome X) → S → Result Y (ParseFault A) → S → Type 0
ReadsAs view at see outcome old result new = Answers view at see (unless_failed (view old).failed (outcome (view old).rest)) old result new

-- no allocation is needed if `outcome` gives a value for the text
abbrev pub SparesMemory : {S A X Y : Type 0} → (S → StreamView) → (Text → Outcome X) → S → Result Y (ParseFault A) → Type 0
SparesMemory view outcome old result = NeedsNoMemory (unless_failed (view old).failed (outcome (view old).rest)) result

-- the error `Memory` at the current position, or this error after the text `passed`
abbrev pub RunsOutOrFails : {S A : Type 0} → (S → StreamView) → (S → StreamView → S) → Fault → Text → S → ParseFault A → S → Type 0
RunsOutOrFails view at cause passed old fault new = RunsOutHere view at old fault new ⊎ FailsAfter view at cause passed old fault new
