use Rattle.std.proofs.Common.{ℕ, ◌<◌}
use Rattle.irtext_graph.specs.declared.object.Site.TheVariants.{AtOperand}
use Rattle.irtext_closed.specs.Closed.{IsUseReached}
use Rattle.irtext_closed.proofs.uses.stray_operand.Given as goal

abbrev pub invariant-loop-i : goal.invariant-loop-i
invariant-loop-i g l = (j : ℕ) → j < l.i → IsUseReached l.ctx (AtOperand l.op j)
