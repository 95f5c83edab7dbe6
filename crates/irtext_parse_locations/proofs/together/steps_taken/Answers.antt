use Rattle.std.proofs.Common.{rules, arith, ◌≡◌, ◌∙◌, sym}
use Rattle.irtext_parse_locations.proofs.ApplySteps.{unless_err, where_err}
use Rattle.irtext_parse_locations.proofs.AllOrNone.{none_left, so_far_none, so_far_more, so_far_all, took_same}
use Rattle.irtext_parse_locations.proofs.together.steps_taken.Goals as goal

pub loop-entry-init : goal.loop-entry-init
loop-entry-init g c =
    let e : c.into_iter-entry-iterator.result.rest.items ≡ c.args.items.items = search rules in
    so_far_none c.args.once.now.entries c.args.items.items c.into_iter-entry-iterator.result.rest.items c.new-steps.result.items c.args.ctx.now e c.new-steps.ensures.items

pub loop-entry-preserved : goal.loop-entry-preserved
loop-entry-preserved g c =
    so_far_more c.args.once.now.entries c.args.items.items c.loop-entry.entry-iterator.rest.items c.next.new.self.rest.items c.in-Some.entry c.loop-entry.steps.items c.step_taken.new.steps.items c.args.ctx.now c.loop-entry.ctx c.step_taken.new.ctx
    c.loop-entry.invariant c.in-Some.ensures.steps.0 (unless_err c.step_taken.result (sym c.is_err.ensures.value ∙ c.if-is_err.false) c.step_taken.ensures.taken)

pub returns-then-is_err-clause-unchanged : goal.returns-then-is_err-clause-unchanged
returns-then-is_err-clause-unchanged g c = λ mark.
    let refused = sym c.is_err.ensures.value ∙ c.if-is_err.true in
    c.steps_undone.ensures mark c.args.ctx.now
    (took_same mark c.loop-entry.steps.items c.step_taken.new.steps.items c.args.ctx.now c.loop-entry.ctx c.step_taken.new.ctx (c.loop-entry.invariant.takes mark)
    (where_err c.step_taken.result refused c.step_taken.ensures.same) (where_err c.step_taken.result refused c.step_taken.ensures.err))

pub returns-clause-stores : goal.returns-clause-stores
returns-clause-stores g c =
    let e = none_left c.loop-entry.entry-iterator.rest.items (omega (arith, c.in-None.ensures.steps.0, c.loop-entry.entry-iterator.rest.ok.0)) in
    so_far_all c.args.once.now.entries c.args.items.items c.loop-entry.entry-iterator.rest.items c.loop-entry.steps.items c.args.ctx.now c.loop-entry.ctx c.loop-entry.invariant e
