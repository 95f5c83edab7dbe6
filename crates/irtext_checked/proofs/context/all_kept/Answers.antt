use Rattle.std.proofs.Common.{subst}
use Rattle.irtext_grammar.specs.ContextParts.{KeepsCounters}
use Rattle.irtext_grammar.proofs.AllKept.{every_part}
use Rattle.irtext_checked.proofs.context.all_kept.Goals as goal

pub returns : goal.returns
returns g c = every_part c.args.ctx.now (subst (λ x. KeepsCounters x) c.graph.ensures c.counters_kept.ensures) c.operations_kept.ensures c.blocks_kept.ensures
