use Rattle.irtext_context.proofs.Kept.{kept_closed}
use Rattle.irtext_tokens.proofs.Exits.{propagated}
use Rattle.irtext_parse_locations.proofs.AllOrNone.{gives_all, gives_kept, gives_closed}
use Rattle.irtext_parse_locations.proofs.together.items_given_together.Goals as goal

pub returns-in_err-steps-clause-unchanged : goal.returns-in_err-steps-clause-unchanged
returns-in_err-steps-clause-unchanged g c = λ mark. rw (propagated c.from_residual.result c.from_residual.ensures.1) (c.in_err-steps.ensures.unchanged mark)

pub returns-in_err-steps-clause-kept : goal.returns-in_err-steps-clause-kept
returns-in_err-steps-clause-kept g c = λ mark n. c.in_err-steps.ensures.unchanged mark

pub returns-in_err-steps-clause-closed : goal.returns-in_err-steps-clause-closed
returns-in_err-steps-clause-closed g c = λ mark h. kept_closed h (c.in_err-steps.ensures.unchanged mark)

pub returns-clause-gives : goal.returns-clause-gives
returns-clause-gives g c = gives_all c.args.once.now.entries c.args.items.items c.in_ok-steps.steps.items c.args.ctx.now c.steps_taken.new.ctx c.steps_finished.new.ctx c.in_ok-steps.ensures.stores c.steps_finished.ensures

pub returns-clause-kept : goal.returns-clause-kept
returns-clause-kept g c = λ mark n. gives_kept c.args.once.now.entries mark c.args.items.items c.args.ctx.now c.steps_finished.new.ctx
    (gives_all c.args.once.now.entries c.args.items.items c.in_ok-steps.steps.items c.args.ctx.now c.steps_taken.new.ctx c.steps_finished.new.ctx c.in_ok-steps.ensures.stores c.steps_finished.ensures) n

pub returns-clause-closed : goal.returns-clause-closed
returns-clause-closed g c = λ mark h. gives_closed c.args.once.now.entries mark c.args.items.items c.args.ctx.now c.steps_finished.new.ctx
    (gives_all c.args.once.now.entries c.args.items.items c.in_ok-steps.steps.items c.args.ctx.now c.steps_taken.new.ctx c.steps_finished.new.ctx c.in_ok-steps.ensures.stores c.steps_finished.ensures) h
