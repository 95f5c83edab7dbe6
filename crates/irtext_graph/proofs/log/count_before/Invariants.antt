use Rattle.std.proofs.Common.{◌≡◌, ◌≤◌, ℕ, Some, length, slice_get}
use Rattle.irtext_graph.specs.Log.{IsBelow, age}
use Rattle.irtext_graph.specs.declared.object.Object.{Object}
use Rattle.irtext_graph.proofs.log.count_before.Given as goal

abbrev pub invariant-loop-count : goal.invariant-loop-count
invariant-loop-count g l = record {
  since : (k : ℕ) (o : Object) → l.count ≤ k → slice_get l.log k ≡ Some o → IsBelow l.mark (age l.objects o) → ⊥;
  low : l.count ≤ length l.log;
}

abbrev pub decreases-loop-count : goal.decreases-loop-count
decreases-loop-count g l = l.count
