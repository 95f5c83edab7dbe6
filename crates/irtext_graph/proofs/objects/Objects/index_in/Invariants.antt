use Rattle.std.proofs.Common.{◌≤◌, ◌≢◌, ℕ, Some, slice_get, length}
use Rattle.irtext_graph.specs.Objects.{kids}
use Rattle.irtext_graph.proofs.objects.Objects.index_in.Given as goal

abbrev pub invariant-loop-i : goal.invariant-loop-i
invariant-loop-i g l = record {
  absent : (j : ℕ) → l.i ≤ j → slice_get (kids l.self l.k) j ≢ Some l.c;
  low : l.i ≤ length (kids l.self l.k);
}

abbrev pub decreases-loop-i : goal.decreases-loop-i
decreases-loop-i g l = l.i
