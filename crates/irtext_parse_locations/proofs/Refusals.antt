-- Errors of required parsers: of a stream that had failed, of a first part, and where nothing of the kind comes next.
use Rattle.std.proofs.Common.{◌≡◌, ◌∙◌, ap, refl, sym, subst, true, false, Result, Err, [], inr}
use Rattle.irtext_base.specs.Text.{Text}
use Rattle.irtext_base.specs.Stream.{StreamView}
use Rattle.irtext_base.specs.Faults.{Fault, Failed}
use Rattle.irtext_base.specs.Answers.{Outcome, Bad, Missing, Answers, Commits, Passes, Demands, demanded, followed, unless_failed}
use Rattle.irtext_base.specs.declared.parsable.fault.ParseFault.{ParseFault}
use Rattle.irtext_base.proofs.Compose.{answers_demanded, refuses_first_demanded}
use Rattle.irtext_tokens.specs.MustRead.{MustRead}
use Rattle.irtext_grammar.specs.Readers.Streams.{itself, replaced}
use Rattle.irtext_grammar.proofs.Readers.PlainStream.{alone}

module _ {A : Type 0} where
  -- the same result, where the outcome is stated in other words
  pub in_words : {X Y : Type 0} {see : Y → X} {f : Text → Outcome X} (g : Text → Outcome X) {old new : StreamView} {r : Result Y (ParseFault A)} → f old.rest ≡ g old.rest → MustRead itself replaced see f old r new → MustRead itself replaced see g old r new
  in_words {see = see} g {old = old} {new = new} {r = r} e h = record { answers = subst (λ o. Answers itself replaced see (demanded (unless_failed old.failed o)) old r new) e h.answers }

  -- the stream had failed
  pub had_failed : {X Y : Type 0} (see : Y → X) (f : Text → Outcome X) {old new : StreamView} {fault : ParseFault A} → old.failed ≡ true → Commits itself replaced Failed [] old fault new → MustRead {Y = Y} itself replaced see f old (Err fault) new
  had_failed see f {old = old} {new = new} {fault = fault} b h =
      record { answers = subst (λ o. Answers itself replaced see (demanded o) old (Err fault) new) (sym (ap (λ z. unless_failed z (f old.rest)) b)) (inr h) }

  -- nothing of the kind comes next
  pub none_comes : {X Y : Type 0} (see : Y → X) (f : Text → Outcome X) (cause : Fault) {old mid new : StreamView} {fault last : ParseFault A} → old.failed ≡ false → f old.rest ≡ Missing cause → Passes itself replaced cause old fault mid → Demands itself replaced fault mid last new
      → MustRead {Y = Y} itself replaced see f old (Err last) new
  none_comes see f cause {old = old} {mid = mid} {new = new} {fault = fault} {last = last} fine e h k =
      let is : unless_failed old.failed (f old.rest) ≡ Missing cause = ap (λ z. unless_failed z (f old.rest)) fine ∙ e in
      let passes : Answers itself replaced see (unless_failed old.failed (f old.rest)) old (Err fault) mid = subst (λ o. Answers itself replaced see o old (Err fault) mid) (sym is) (inr h) in
      record { answers = answers_demanded itself replaced alone.view_at alone.at_at see (unless_failed old.failed (f old.rest)) old mid new (Err fault) (Err last) passes (last, refl, k) }

  -- the first part is an error
  pub first_fails : {X Y W V : Type 0} {see : Y → X} (sees : W → V) {f : Text → Outcome X} {old new : StreamView} {fault : ParseFault A} (k : X → Text → Outcome V) → MustRead {Y = Y} itself replaced see f old (Err fault) new → MustRead {Y = W} itself replaced sees (λ t. followed (f t) k) old (Err fault) new
  first_fails {see = see} sees {f = f} {old = old} {new = new} {fault = fault} k h =
      record { answers = refuses_first_demanded itself replaced alone.view_at alone.at_at see sees old.failed (f old.rest) k old new fault h.answers }
