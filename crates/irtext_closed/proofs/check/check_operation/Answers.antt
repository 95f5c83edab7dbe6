use Rattle.irtext_closed.proofs.Reasons.{operation_closed}
use Rattle.irtext_closed.proofs.check.check_operation.Goals as goal

pub returns-in-None-clause-closed : goal.returns-in-None-clause-closed
returns-in-None-clause-closed g c = operation_closed c.args.ctx.now c.args.op (c.contains_operation.ensures.alive.0 c.if-not-contains_operation.false) c.in_default.ensures.none c.in_default-stray_operand.ensures.none c.in-None.ensures.none
