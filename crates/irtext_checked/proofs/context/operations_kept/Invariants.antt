use Rattle.std.proofs.Common.{ℕ, ◌<◌}
use Rattle.irtext_grammar.specs.ContextParts.{KeepsOperationAt}
use Rattle.irtext_checked.proofs.context.operations_kept.Given as goal

-- it is known of all places before
abbrev pub invariant-loop-place : goal.invariant-loop-place
invariant-loop-place g l = (i : ℕ) → i < l.place → KeepsOperationAt l.ctx i
