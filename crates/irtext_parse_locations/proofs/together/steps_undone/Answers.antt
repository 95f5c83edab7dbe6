use Rattle.std.proofs.Common.{is_some, ap, subst}
use Rattle.irtext_parse_locations.specs.Together.{TakesAll}
use Rattle.irtext_parse_locations.proofs.AllOrNone.{none_taken, took_back}
use Rattle.irtext_parse_locations.proofs.together.steps_undone.Goals as goal

pub loop-step-preserved : goal.loop-step-preserved
loop-step-preserved g c = λ mark first k.
    took_back mark c.in-Some.step c.pop.new.self.items first c.loop-step.ctx c.step_undone.new.ctx
    (subst (λ ss. TakesAll mark ss first c.loop-step.ctx) c.in-Some.ensures.items (c.loop-step.invariant mark first k)) c.step_undone.ensures

pub returns : goal.returns
returns g c = λ mark first k.
    subst (λ ss. TakesAll mark ss first c.loop-step.ctx) (none_taken c.loop-step.steps.items c.loop-step.steps.len (is_some c.pop.result) c.loop-step.steps.ok.0 c.pop.ensures.variant (ap is_some c.in_default.is)) (c.loop-step.invariant mark first k)
