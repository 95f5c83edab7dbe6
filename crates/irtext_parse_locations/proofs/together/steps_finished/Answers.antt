use Rattle.std.proofs.Common.{rules, arith, ◌≡◌, refl, sym, subst}
use Rattle.irtext_parse_locations.specs.Together.{FinishesAll}
use Rattle.irtext_parse_locations.proofs.AllOrNone.{none_left}
use Rattle.irtext_parse_locations.proofs.together.steps_finished.Goals as goal

pub loop-step-init : goal.loop-step-init
loop-step-init g c =
    let e : c.into_iter-step-iterator.result.rest.items ≡ c.args.steps.items = search rules in
    λ new h. subst (λ ss. FinishesAll ss c.args.ctx.now new) e h

pub loop-step-preserved : goal.loop-step-preserved
loop-step-preserved g c = λ new k. c.loop-step.invariant new (subst (λ ss. FinishesAll ss c.loop-step.ctx new) (sym c.in-Some.ensures.steps.0) (c.step_finished.new.ctx, c.step_finished.ensures, k))

pub returns : goal.returns
returns g c =
    let e = none_left c.loop-step.step-iterator.rest.items (omega (arith, c.in-None.ensures.steps.0, c.loop-step.step-iterator.rest.ok.0)) in
    c.loop-step.invariant c.loop-step.ctx (subst (λ ss. FinishesAll ss c.loop-step.ctx c.loop-step.ctx) (sym e) refl)
