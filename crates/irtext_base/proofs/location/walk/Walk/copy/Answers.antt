use Rattle.std.proofs.Common.{◌∙◌}
use Rattle.irtext_base.proofs.Walks.{reached_again}
use Rattle.irtext_base.proofs.location.walk.Walk.copy.Goals as goal

pub returns-in_err-turn-in_default-clause-reached :
    goal.returns-in_err-turn-in_default-clause-reached
returns-in_err-turn-in_default-clause-reached g c = reached_again c.loop-turn.invariant.reached c.next.ensures.reached

pub loop-turn-preserved : goal.loop-turn-preserved
loop-turn-preserved g c =
    let l = c.loop-turn in
    let next = c.in_ok-turn-in_default.ensures in
    record { on = next.on ∙ l.invariant.on; reached = reached_again l.invariant.reached next.reached }
