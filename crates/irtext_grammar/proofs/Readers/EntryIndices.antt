-- The error of a parser, required or optional, alone or after something that was parsed.
use Rattle.std.proofs.Common.{◌≡◌, Bool, true, false, Err, refl, sym, ◌∙◌, ap, ◌⊎◌, inl, inr}
use Rattle.irtext_base.specs.Text.{Text}
use Rattle.irtext_base.specs.Stream.{StreamView}
use Rattle.irtext_base.specs.Answers.{Outcome, Read, Missing, Bad, RunsOut, Refuses, demanded, unless_failed}
use Rattle.irtext_base.specs.declared.parsable.fault.ParseFault.{ParseFault}
use Rattle.irtext_tokens.specs.MustRead.{MustRead, MayRead}
use Rattle.irtext_base.specs.Own.{is_first_fault}
use Rattle.irtext_grammar.specs.Readers.Refusals.{Refusal, CommittedRefusal}
use Rattle.irtext_grammar.specs.Readers.Streams.{itself, replaced}
use Rattle.irtext_grammar.proofs.Readers.NeverFailed.{CauseIs, NotFailed}
use Rattle.irtext_grammar.proofs.Readers.FirstMissing.{FirstMissing}

module _ {A : Type 0} where
  demands_of : {X : Type 0} (b : Bool) (o : Outcome X) (old new : StreamView) (fault : ParseFault A) → old.failed ≡ b → CauseIs NotFailed o → RunsOut itself replaced old fault new ⊎ Refuses itself replaced (demanded (unless_failed b o)) old fault new → CommittedRefusal old fault new
  demands_of b o old new fault e s (inl h) = record { committed = h.committed; fails = ap (λ v. v.failed) h.left.is ∙ h.left.fails; failed = λ f. absurd (cc (h.because)) }
  demands_of true o old new fault e s (inr h) = record { committed = h.committed; fails = ap (λ v. v.failed) h.left.is ∙ h.left.fails; failed = λ f. e }
  demands_of false (Read x t r) old new fault e s (inr h) = absurd h
  demands_of false (Missing cause) old new fault e s (inr h) = record { committed = h.committed; fails = ap (λ v. v.failed) h.left.is ∙ h.left.fails; failed = λ f. absurd (s (sym h.because ∙ f)) }
  demands_of false (Bad cause upto) old new fault e s (inr h) = record { committed = h.committed; fails = ap (λ v. v.failed) h.left.is ∙ h.left.fails; failed = λ f. absurd (s (sym h.because ∙ f)) }

  -- an error of a required parser
  pub demands : {X Y : Type 0} {see : Y → X} {f : Text → Outcome X} {old new : StreamView} {fault : ParseFault A} → ((text : Text) → CauseIs NotFailed (f text)) → MustRead {Y = Y} itself replaced see f old (Err fault) new → CommittedRefusal old fault new
  demands {f = f} {old = old} {new = new} {fault = fault} s h = demands_of old.failed (f old.rest) old new fault refl (s old.rest) h.answers

  refusal_of : {X : Type 0} (b : Bool) (o : Outcome X) (old new : StreamView) (fault : ParseFault A) → old.failed ≡ b → CauseIs NotFailed o → FirstMissing o → RunsOut itself replaced old fault new ⊎ Refuses itself replaced (unless_failed b o) old fault new → Refusal old fault new
  refusal_of b o old new fault e s m (inl h) = record { committed = λ _. ap (λ v. v.failed) h.left.is ∙ h.left.fails; uncommitted = λ q. absurd (cc (h.committed)); first = λ q. absurd (cc (h.committed)); failed = λ f. absurd (cc (h.because)) }
  refusal_of true o old new fault e s m (inr h) = record { committed = λ _. ap (λ v. v.failed) h.left.is ∙ h.left.fails; uncommitted = λ q. absurd (cc (h.committed)); first = λ q. absurd (cc (h.committed)); failed = λ f. e }
  refusal_of false (Read x t r) old new fault e s m (inr h) = absurd h
  refusal_of false (Missing cause) old new fault e s m (inr h) = record { committed = λ q. absurd (cc (h.committed)); uncommitted = λ _. h.left; first = λ _. ap is_first_fault h.because ∙ m.says; failed = λ f. absurd (s (sym h.because ∙ f)) }
  refusal_of false (Bad cause upto) old new fault e s m (inr h) = record { committed = λ _. ap (λ v. v.failed) h.left.is ∙ h.left.fails; uncommitted = λ q. absurd (cc (h.committed)); first = λ q. absurd (cc (h.committed)); failed = λ f. absurd (s (sym h.because ∙ f)) }

  -- an error of an optional parser
  pub refusal : {X Y : Type 0} {see : Y → X} {f : Text → Outcome X} {old new : StreamView} {fault : ParseFault A} → ((text : Text) → CauseIs NotFailed (f text)) → ((text : Text) → FirstMissing (f text)) → MayRead {Y = Y} itself replaced see f old (Err fault) new → Refusal old fault new
  refusal {f = f} {old = old} {new = new} {fault = fault} s m h = refusal_of old.failed (f old.rest) old new fault refl (s old.rest) (m old.rest) h.answers

  -- the error of a required parser, after something that was parsed
  pub demanded_refusal : {old mid new : StreamView} {fault : ParseFault A} → (mid.failed ≡ true → old.failed ≡ true) → CommittedRefusal mid fault new → Refusal old fault new
  demanded_refusal e h = record { committed = λ _. h.fails; uncommitted = λ q. absurd (cc (h.committed)); first = λ q. absurd (cc (h.committed)); failed = λ f. e (h.failed f) }
