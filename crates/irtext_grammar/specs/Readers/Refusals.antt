-- For callers: what an error leaves of a stream.
use Rattle.std.specs.Prelude.{◌≡◌, true, false, Result, IsErrAnd}
use Rattle.irtext_base.specs.Stream.{StreamView, IsAt}
use Rattle.irtext_base.specs.Faults.{Failed, fault_of}
use Rattle.irtext_base.specs.Own.{is_first_fault}
use Rattle.irtext_base.specs.declared.parsable.fault.ParseFault.{ParseFault}

-- an error on a stream: after a committed fault the stream has failed; after an uncommitted one it is unchanged, and the cause is that of
-- a text of which nothing was consumed; the cause is `Failed` only if the stream had failed before
pub record Refusal {A : Type 0} (old : StreamView) (fault : ParseFault A) (new : StreamView) : Type 0 where
  pub committed : fault.committed ≡ true → new.failed ≡ true
  pub uncommitted : fault.committed ≡ false → new ≡ old
  pub first : fault.committed ≡ false → is_first_fault (fault_of fault.cause) ≡ true
  pub failed : fault_of fault.cause ≡ Failed → old.failed ≡ true

-- an error of something that is required: the fault is committed and the stream has failed; the cause is `Failed` only if it had failed
-- before
pub record CommittedRefusal {A : Type 0} (old : StreamView) (fault : ParseFault A) (new : StreamView) : Type 0 where
  pub committed : fault.committed ≡ true
  pub fails : new.failed ≡ true
  pub failed : fault_of fault.cause ≡ Failed → old.failed ≡ true

-- the error of a failed stream: the committed fault `Failed`, at the current place; the stream is unchanged
pub record FailedRefusal {A : Type 0} (old : StreamView) (fault : ParseFault A) (new : StreamView) : Type 0 where
  pub because : fault_of fault.cause ≡ Failed
  pub committed : fault.committed ≡ true
  pub place : IsAt fault.pos.line fault.pos.column old.passed
  pub left : new ≡ old

-- on a failed stream nothing is returned but this error
abbrev pub RefusesFailed : {X A : Type 0} → StreamView → Result X (ParseFault A) → StreamView → Type 0
RefusesFailed old result new = old.failed ≡ true → IsErrAnd result (λ fault. FailedRefusal old fault new)
