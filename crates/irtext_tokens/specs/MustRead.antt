-- The results of parsers whose outcome on a text is known, for a required token and for one that may be missing.
use Rattle.std.specs.Prelude.{Result}
use Rattle.irtext_base.specs.Text.{Text}
use Rattle.irtext_base.specs.Stream.{StreamView}
use Rattle.irtext_base.specs.Answers.{Outcome, Answers, demanded, unless_failed}
use Rattle.irtext_base.specs.declared.parsable.fault.ParseFault.{ParseFault}

module _ {S A X Y : Type 0} (view : S → StreamView) (at : S → StreamView → S) (see : Y → X) (outcome : Text → Outcome X) (old : S) (result : Result Y (ParseFault A)) (new : S) where
  -- the result, seen by `see`, is what `outcome` gives for the text, and a missing token is a committed error
  pub record MustRead : Type 0 where
    pub answers : Answers view at see (demanded (unless_failed (view old).failed (outcome (view old).rest))) old result new

  -- the result, seen by `see`, is what `outcome` gives for the text
  pub record MayRead : Type 0 where
    pub answers : Answers view at see (unless_failed (view old).failed (outcome (view old).rest)) old result new
