-- A value that was parsed, seen by a function.
use Rattle.std.proofs.Common.{◌≡◌, ◌∙◌, Bool, true, false, ap}
use Rattle.irtext_base.specs.Stream.{StreamView}
use Rattle.irtext_base.specs.Answers.{Outcome, Read, Missing, Bad, Gives, mapped, unless_failed}

pub gives_seen : {X Y : Type 0} (see : X → Y) (b : Bool) (o : Outcome X) (old new : StreamView) (x : X) (y : Y) → y ≡ see x → Gives (λ s. s) (λ s v. v) (unless_failed b o) old x new → Gives (λ s. s) (λ s v. v) (unless_failed b (mapped see o)) old y new
gives_seen see true o old new x y e h = absurd h
gives_seen see false (Read z taken rest) old new x y e h = (e ∙ ap see h.0, h.1)
gives_seen see false (Missing cause) old new x y e h = absurd h
gives_seen see false (Bad cause upto) old new x y e h = absurd h
