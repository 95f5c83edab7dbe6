use Rattle.irtext_grammar.specs.ContextParts.{KeepsOperationAt}
use Rattle.irtext_grammar.proofs.AllKept.{next_place}
use Rattle.irtext_checked.proofs.context.operations_kept.Goals as goal

pub loop-place-preserved : goal.loop-place-preserved
loop-place-preserved g c = next_place (KeepsOperationAt c.args.ctx.now) c.loop-place.place c.loop-place.invariant c.operation_kept_at.ensures
