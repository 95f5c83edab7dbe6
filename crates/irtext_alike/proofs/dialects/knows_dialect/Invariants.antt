use Rattle.std.proofs.Common.{◌<◌, ℕ}
use Rattle.irtext_alike.specs.Each.{KnowsAt}
use Rattle.irtext_alike.proofs.dialects.knows_dialect.Given as goal

abbrev pub invariant-loop-index : goal.invariant-loop-index
invariant-loop-index g l = (j : ℕ) → j < l.index → KnowsAt l.ctx.dialects l.other.dialects l.dialect.entries j
