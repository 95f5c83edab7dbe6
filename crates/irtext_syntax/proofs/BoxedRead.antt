-- A part that was parsed, and no memory for its box.
use Rattle.std.proofs.Common.{◌≡◌, Bool, true, false, Ok, Err, inl, refl}
use Rattle.irtext_base.proofs.Compose.{runs_out_after}
use Rattle.irtext_base.specs.Answers.{Outcome, Read, Missing, Bad, Answers, RunsOutHere, unless_failed}
use Rattle.irtext_base.specs.Stream.{StreamView}
use Rattle.irtext_base.specs.Text.{Text}
use Rattle.irtext_base.specs.declared.parsable.fault.ParseFault.{ParseFault}
use Rattle.irtext_tokens.specs.MustRead.{MayRead}

module _ {X A : Type 0} (old mid new : StreamView) (value : X) (fault : ParseFault A) where
  by : (b : Bool) → old.failed ≡ b → (o : Outcome X) → Answers (λ s. s) (λ s v. v) {A = A} {Y = X} (λ x. x) (unless_failed b o) old (Ok value) mid → RunsOutHere (λ s. s) (λ s v. v) mid fault new
      → Answers (λ s. s) (λ s v. v) {A = A} {Y = X} (λ x. x) (unless_failed b o) old (Err fault) new
  by true f o h s = absurd h
  by false f (Read x taken rest) h s = inl (runs_out_after (λ s. s) (λ s v. v) (λ s v. refl) (λ s v w. refl) old mid new taken rest fault f h.1 s)
  by false f (Missing cause) h s = absurd h
  by false f (Bad cause upto) h s = absurd h

  -- the whole has run out of memory
  pub not_boxed : (reading : Text → Outcome X) → MayRead {A = A} {Y = X} (λ s. s) (λ s v. v) (λ x. x) reading old (Ok value) mid → RunsOutHere (λ s. s) (λ s v. v) mid fault new → MayRead {A = A} {Y = X} (λ s. s) (λ s v. v) (λ x. x) reading old (Err fault) new
  not_boxed reading h s = record { answers = by old.failed refl (reading old.rest) h.answers s }
