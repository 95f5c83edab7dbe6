-- Values that are made of those that were parsed.
use Rattle.std.proofs.Common.{◌≡◌, Bool, true, false, Option, Some, refl, sym, subst, ◌∙◌, ap}
use Rattle.irtext_base.specs.Stream.{StreamView}
use Rattle.irtext_base.specs.Answers.{Outcome, Read, Missing, Bad, Gives, unless_failed}
use Rattle.irtext_tokens.specs.Integers.{ranged}
use Rattle.irtext_syntax.specs.Numbers.{narrowed}

-- a value made of the one that was parsed
pub gives_narrowed : {X Y : Type 0} (make : X → Option Y) (b : Bool) (o : Outcome X) (old new : StreamView) (x : X) (y : Y) → make x ≡ Some y
    → Gives (λ s. s) (λ s v. v) (unless_failed b o) old x new → Gives (λ s. s) (λ s v. v) (unless_failed b (narrowed make o)) old y new
gives_narrowed make true o old new x y e h = absurd h
gives_narrowed make false (Read z taken rest) old new x y e h = subst (λ m. Gives (λ s. s) (λ s v. v) (ranged taken rest m) old y new) (sym (ap make (sym h.0) ∙ e)) (refl, h.1)
gives_narrowed make false (Missing cause) old new x y e h = absurd h
gives_narrowed make false (Bad cause upto) old new x y e h = absurd h
