-- An optional part is parsed as nothing if none begins; a bad part is an error.
use Rattle.std.proofs.Common.{◌≡◌, inl, inr, Bool, true, false, cond, Option, None, Result, Ok, Err, [], refl, sym, ◌∙◌, subst, true≢false}
use Rattle.irtext_base.specs.Text.{Text}
use Rattle.irtext_base.specs.Stream.{StreamView}
use Rattle.irtext_base.specs.Answers.{Outcome, Read, Missing, Bad, Answers, Takes, unless_failed}
use Rattle.irtext_base.specs.declared.parsable.fault.ParseFault.{ParseFault}
use Rattle.irtext_base.proofs.Compose.{takes_none}
use Rattle.irtext_tokens.specs.MustRead.{MayRead}
use Rattle.irtext_tokens.proofs.ListSteps.{unless_error}
use Rattle.irtext_syntax.specs.Maybes.{or_none, maybe_at}

committed_not : {A : Type 0} (fault : ParseFault A) → fault.committed ≡ true → fault.committed ≡ false → ⊥
committed_not fault e f = true≢false (sym e ∙ f)

-- for an uncommitted error, none begins here
left_out : {X A : Type 0} (old new : StreamView) (b : Bool) (o : Outcome X) (fault : ParseFault A) → fault.committed ≡ false → Answers (λ s. s) (λ s v. v) {A = A} {Y = X} (λ x. x) (unless_failed b o) old (Err fault) new
    → Answers (λ s. s) (λ s v. v) {A = A} {Y = Option X} (λ x. x) (unless_failed b (or_none o old.rest)) old (Ok None) new
left_out old new b o fault f (inl h) = absurd (committed_not fault h.committed f)
left_out old new true o fault f (inr h) = absurd (committed_not fault h.committed f)
left_out old new false (Read x taken rest) fault f (inr h) = absurd h
left_out old new false (Missing cause) fault f (inr h) = (refl, subst (λ z. Takes (λ s. s) (λ s v. v) [] old.rest old z) (sym h.left) (takes_none (λ s. s) (λ s v. v) (λ s v. refl) (λ s v w. refl) (λ s. refl) old))
left_out old new false (Bad cause upto) fault f (inr h) = absurd (committed_not fault h.committed f)

nothing_read : {X A : Type 0} (old new : StreamView) (reading : Text → Outcome X) (fault : ParseFault A) → fault.committed ≡ false → MayRead {Y = X} (λ s. s) (λ s v. v) (λ x. x) reading old (Err fault) new
    → MayRead {A = A} {Y = Option X} (λ s. s) (λ s v. v) (λ x. x) (maybe_at reading) old (Ok None) new
nothing_read old new reading fault f h = record { answers = left_out old new old.failed (reading old.rest) fault f h.answers }

-- a committed error is that of the part
bad_part : {X A : Type 0} (old new : StreamView) (b : Bool) (o : Outcome X) (fault : ParseFault A) → fault.committed ≡ true → Answers (λ s. s) (λ s v. v) {A = A} {Y = X} (λ x. x) (unless_failed b o) old (Err fault) new
    → Answers (λ s. s) (λ s v. v) {A = A} {Y = Option X} (λ x. x) (unless_failed b (or_none o old.rest)) old (Err fault) new
bad_part old new b o fault e (inl h) = inl h
bad_part old new true o fault e (inr h) = inr h
bad_part old new false (Read x taken rest) fault e (inr h) = absurd h
bad_part old new false (Missing cause) fault e (inr h) = absurd (committed_not fault e h.committed)
bad_part old new false (Bad cause upto) fault e (inr h) = inr h

-- for an error of the part: nothing, if it is not committed, and otherwise the error
pub maybe_read : {X A : Type 0} (old new : StreamView) (reading : Text → Outcome X) (fault : ParseFault A) (r : Result (Option X) (ParseFault A)) → cond fault.committed (r ≡ Err fault) (r ≡ Ok None)
    → MayRead {Y = X} (λ s. s) (λ s v. v) (λ x. x) reading old (Err fault) new → MayRead {Y = Option X} (λ s. s) (λ s v. v) (λ x. x) (maybe_at reading) old r new
maybe_read {X} {A} old new reading fault r is h =
    unless_error (λ r. MayRead {A = A} {Y = Option X} (λ s. s) (λ s v. v) (λ x. x) (maybe_at reading) old r new) fault None r is
    (λ e. record { answers = bad_part old new old.failed (reading old.rest) fault e h.answers }) (λ e. nothing_read old new reading fault e h)
