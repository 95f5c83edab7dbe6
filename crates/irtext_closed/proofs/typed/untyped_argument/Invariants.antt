use Rattle.std.proofs.Common.{ℕ, ◌<◌}
use Rattle.irtext_graph.specs.declared.object.Value.TheVariants.{Argument}
use Rattle.irtext_closed.specs.Closed.{IsTyped}
use Rattle.irtext_closed.proofs.typed.untyped_argument.Given as goal

abbrev pub invariant-loop-i : goal.invariant-loop-i
invariant-loop-i g l = (j : ℕ) → j < l.i → IsTyped l.ctx (Argument l.block j)
