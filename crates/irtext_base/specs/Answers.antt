-- The results of parsers, and what they leave of the stream.
use Rattle.std.specs.Prelude.{◌≡◌, ◌⊎◌, Bool, true, false, Result, Ok, Err, [], ◌++◌}
use Rattle.irtext_base.specs.Text.{Text}
use Rattle.irtext_base.specs.Stream.{StreamView, IsAt, after_taken, after_failure}
use Rattle.irtext_base.specs.Faults.{Fault, Memory, Failed, fault_of}
use Rattle.irtext_base.specs.declared.parsable.fault.ParseFault.{ParseFault}

-- what a parser makes of a text: a value, with the characters that it consumes and those that are left; no value of its kind; or a bad
-- text, with the characters up to the position of the error
pub data Outcome (X : Type 0) : Type 0 where
  Read : X → Text → Text → Outcome X
  Missing : Fault → Outcome X
  Bad : Fault → Text → Outcome X

-- on a failed stream every parser fails at its position
abbrev pub unless_failed : {X : Type 0} → Bool → Outcome X → Outcome X
unless_failed true o = Bad Failed []
unless_failed false o = o

-- the outcome where a value is required: that there is none is bad
abbrev pub demanded : {X : Type 0} → Outcome X → Outcome X
demanded (Read x taken rest) = Read x taken rest
demanded (Missing cause) = Bad cause []
demanded (Bad cause upto) = Bad cause upto

-- the outcome of what comes after the characters taken, as an outcome from before them; that there is no value is then bad
abbrev pub prefixed : {X : Type 0} → Text → Outcome X → Outcome X
prefixed taken (Read x more rest) = Read x (taken ++ more) rest
prefixed taken (Missing cause) = Bad cause taken
prefixed taken (Bad cause upto) = Bad cause (taken ++ upto)

-- the outcome with a function applied to its value
abbrev pub mapped : {X Y : Type 0} → (X → Y) → Outcome X → Outcome Y
mapped see (Read x taken rest) = Read (see x) taken rest
mapped see (Missing cause) = Missing cause
mapped see (Bad cause upto) = Bad cause upto

-- a value, and after it another, which is required
abbrev pub followed : {X Y : Type 0} → Outcome X → (X → Text → Outcome Y) → Outcome Y
followed (Read x taken rest) next = prefixed taken (next x rest)
followed (Missing cause) next = Missing cause
followed (Bad cause upto) next = Bad cause upto

-- if the outcome is a value, it is returned: no allocation is needed
abbrev pub NeedsNoMemory : {X Y A : Type 0} → Outcome X → Result Y (ParseFault A) → Type 0
NeedsNoMemory o (Ok y) = Unit {0}
NeedsNoMemory (Read x taken rest) (Err fault) = ⊥
NeedsNoMemory (Missing cause) (Err fault) = Unit {0}
NeedsNoMemory (Bad cause upto) (Err fault) = Unit {0}

-- the outcome is one that the relation allows of the text; on a failed stream it is that the stream has failed
abbrev pub Outcomes : {X : Type 0} → (Text → Outcome X → Type 0) → Bool → Text → Outcome X → Type 0
Outcomes R true text o = o ≡ Bad Failed []
Outcomes R false text o = R text o

module _ {S : Type 0} (view : S → StreamView) (at : S → StreamView → S) where
  -- the stream is at some position of the same text, and has failed or not as given
  pub record SameStream (failed : Bool) (old new : S) : Type 0 where
    pub seen : StreamView
    pub is : new ≡ at old seen
    pub fails : seen.failed ≡ failed
    pub same : seen.passed ++ seen.rest ≡ (view old).passed ++ (view old).rest

  -- the stream consumed these characters, a prefix of what was left
  pub record Takes (taken rest : Text) (old new : S) : Type 0 where
    pub is : new ≡ at old (after_taken (view old) taken rest)
    pub same : taken ++ rest ≡ (view old).rest

  -- the value is the one that is parsed there, and its characters were consumed
  abbrev pub Gives : {X : Type 0} → Outcome X → S → X → S → Type 0
  Gives (Read x taken rest) old y new = (y ≡ x) × Takes taken rest old new
  Gives (Missing cause) old y new = ⊥
  Gives (Bad cause upto) old y new = ⊥

  -- a value that the relation allows of the text
  pub record Found {X : Type 0} (R : Text → Outcome X → Type 0) (old : S) (x : X) (new : S) : Type 0 where
    pub taken : Text
    pub rest : Text
    pub allowed : Outcomes R (view old).failed (view old).rest (Read x taken rest)
    pub takes : Takes taken rest old new

  module _ {A : Type 0} where
    -- out of memory on a stream that had not failed: a committed error at the stream's new position, and the stream has failed
    pub record RunsOut (old : S) (fault : ParseFault A) (new : S) : Type 0 where
      pub because : fault_of fault.cause ≡ Memory
      pub committed : fault.committed ≡ true
      pub fine : (view old).failed ≡ false
      pub place : IsAt fault.pos.line fault.pos.column (view new).passed
      pub left : SameStream true old new

    -- a committed error at the position after the characters `passed`, and the stream is marked as failed without being moved
    pub record FailsAfter (cause : Fault) (passed : Text) (old : S) (fault : ParseFault A) (new : S) : Type 0 where
      pub because : fault_of fault.cause ≡ cause
      pub committed : fault.committed ≡ true
      pub place : IsAt fault.pos.line fault.pos.column passed
      pub left : new ≡ at old (after_failure (view old))

    -- out of memory at the stream's position, and the stream is marked as failed without being moved
    abbrev pub RunsOutHere : S → ParseFault A → S → Type 0
    RunsOutHere old fault new = FailsAfter Memory (view old).passed old fault new

    -- a committed error at the position after the characters `upto`, and the stream has failed
    pub record Commits (cause : Fault) (upto : Text) (old : S) (fault : ParseFault A) (new : S) : Type 0 where
      pub because : fault_of fault.cause ≡ cause
      pub committed : fault.committed ≡ true
      pub place : IsAt fault.pos.line fault.pos.column ((view old).passed ++ upto)
      pub left : SameStream true old new

    -- an error at the stream's position that is not committed, and the stream is unchanged
    pub record Passes (cause : Fault) (old : S) (fault : ParseFault A) (new : S) : Type 0 where
      pub because : fault_of fault.cause ≡ cause
      pub committed : fault.committed ≡ false
      pub place : IsAt fault.pos.line fault.pos.column (view old).passed
      pub left : new ≡ old

    -- the same error, committed, and the stream is marked as failed
    pub record Demands (fault : ParseFault A) (old : S) (last : ParseFault A) (new : S) : Type 0 where
      pub cause : last.cause ≡ fault.cause
      pub place : last.pos ≡ fault.pos
      pub committed : last.committed ≡ true
      pub left : new ≡ at old (after_failure (view old))

    -- the same result, but an error is committed, and the stream is then marked as failed
    abbrev pub DemandsOf : {Y : Type 0} → Result Y (ParseFault A) → S → Result Y (ParseFault A) → S → Type 0
    DemandsOf (Ok y) old result new = (result ≡ Ok y) × (new ≡ old)
    DemandsOf (Err fault) old result new = (last : ParseFault A) × (result ≡ Err last) × Demands fault old last new

    -- the error is the one of the outcome
    abbrev pub Refuses : {X : Type 0} → Outcome X → S → ParseFault A → S → Type 0
    Refuses (Read x taken rest) old fault new = ⊥
    Refuses (Missing cause) old fault new = Passes cause old fault new
    Refuses (Bad cause upto) old fault new = Commits cause upto old fault new

    -- The result of a parser, with `see` applied to its value, is the one of the outcome, or out of memory.
    abbrev pub Answers : {X Y : Type 0} → (Y → X) → Outcome X → S → Result Y (ParseFault A) → S → Type 0
    Answers see o old (Ok y) new = Gives o old (see y) new
    Answers see o old (Err fault) new = RunsOut old fault new ⊎ Refuses o old fault new

    -- an error that the relation allows of the text, or out of memory
    pub data Refused {X : Type 0} (R : Text → Outcome X → Type 0) (old : S) (fault : ParseFault A) (new : S) : Type 0 where
      ran_out : RunsOut old fault new → Refused R old fault new
      missing : (cause : Fault) → Outcomes R (view old).failed (view old).rest (Missing cause) → Passes cause old fault new → Refused R old fault new
      bad : (cause : Fault) (upto : Text) → Outcomes R (view old).failed (view old).rest (Bad cause upto) → Commits cause upto old fault new → Refused R old fault new

    -- The result of a parser, with `see` applied to its value, is one that the relation allows of the text, or out of memory.
    abbrev pub Meets : {X Y : Type 0} → (Y → X) → (Text → Outcome X → Type 0) → S → Result Y (ParseFault A) → S → Type 0
    Meets see R old (Ok y) new = Found R old (see y) new
    Meets see R old (Err fault) new = Refused R old fault new
