use Rattle.irtext_grammar.specs.ContextParts.{KeepsBlockAt}
use Rattle.irtext_grammar.proofs.AllKept.{next_place}
use Rattle.irtext_checked.proofs.context.blocks_kept.Goals as goal

pub loop-place-preserved : goal.loop-place-preserved
loop-place-preserved g c = next_place (KeepsBlockAt c.args.ctx.now) c.loop-place.place c.loop-place.invariant c.block_kept_at.ensures
