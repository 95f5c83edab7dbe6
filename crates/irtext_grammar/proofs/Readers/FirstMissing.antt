-- If the value of a parser is missing, the cause is one at which nothing of the text was taken.
use Rattle.std.proofs.Common.{◌≡◌, true}
use Rattle.irtext_base.specs.Own.{is_first_fault}
use Rattle.irtext_base.specs.Answers.{Outcome, Read, Missing, Bad}

-- the cause of what is missing is one of a text of which nothing was taken
abbrev MissesFirst : {X : Type 0} → Outcome X → Type 0
MissesFirst (Read x taken rest) = Unit {0}
MissesFirst (Missing cause) = is_first_fault cause ≡ true
MissesFirst (Bad cause upto) = Unit {0}

-- if the outcome is that the value is missing, its cause is one at which nothing was taken
pub record FirstMissing {X : Type 0} (o : Outcome X) : Type 0 where
  pub says : MissesFirst o
