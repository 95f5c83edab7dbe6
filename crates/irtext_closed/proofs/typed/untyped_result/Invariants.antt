use Rattle.std.proofs.Common.{ℕ, ◌<◌}
use Rattle.irtext_graph.specs.declared.object.Value.TheVariants.{Result}
use Rattle.irtext_closed.specs.Closed.{IsTyped}
use Rattle.irtext_closed.proofs.typed.untyped_result.Given as goal

abbrev pub invariant-loop-i : goal.invariant-loop-i
invariant-loop-i g l = (j : ℕ) → j < l.i → IsTyped l.ctx (Result l.op j)
