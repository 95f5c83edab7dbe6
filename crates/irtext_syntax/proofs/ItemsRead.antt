-- Items that were parsed, up to the closing bracket.
use Rattle.std.proofs.Common.{◌≡◌, ℕ, Result, List, subst}
use Rattle.irtext_base.specs.Text.{Text}
use Rattle.irtext_base.specs.Stream.{StreamView}
use Rattle.irtext_base.specs.Answers.{Outcome}
use Rattle.irtext_base.specs.declared.parsable.fault.ParseFault.{ParseFault}
use Rattle.irtext_tokens.specs.ListOutcomes.{separated_at}
use Rattle.irtext_tokens.specs.MustRead.{MayRead, MustRead}
use Rattle.irtext_tokens.proofs.ListOutcomes.{separated_never_missing}
use Rattle.irtext_tokens.proofs.Steps.{alone, never_missing}

-- a list is never missing, and its separator may be named otherwise
pub separated_read : {X Y A : Type 0} (see : Y → List X) (item : Text → Outcome X) (a b : ℕ) (old new : StreamView) (r : Result Y (ParseFault A)) → a ≡ b → MayRead (λ s. s) (λ s v. v) see (separated_at a item) old r new → MustRead (λ s. s) (λ s v. v) see (separated_at b item) old r new
separated_read see item a b old new r e h = never_missing alone (separated_at b item) (separated_never_missing b item) (subst (λ z. MayRead (λ s. s) (λ s v. v) see (separated_at z item) old r new) e h)
