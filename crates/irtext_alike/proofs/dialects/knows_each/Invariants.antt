use Rattle.std.proofs.Common.{◌<◌, ℕ}
use Rattle.irtext_alike.specs.Each.{KnowsTableAt}
use Rattle.irtext_alike.proofs.dialects.knows_each.Given as goal

abbrev pub invariant-loop-index : goal.invariant-loop-index
invariant-loop-index g l = (j : ℕ) → j < l.index → KnowsTableAt l.ctx.dialects l.other.dialects j
