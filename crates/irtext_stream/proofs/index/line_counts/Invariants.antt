use Rattle.std.proofs.Common.{◌≡◌, ◌<◌, ◌*◌, ℕ, length, get_or}
use Rattle.irtext_stream.specs.Index.{BeginUpTo}
use Rattle.irtext_stream.proofs.index.line_counts.Given as goal

abbrev pub invariant-loop-i : goal.invariant-loop-i
invariant-loop-i l = record {
  so_far : length l.lines.items ≡ l.i;
  here : BeginUpTo l.starts l.line (128 * l.i);
  each : (k : ℕ) → k < length l.lines.items → BeginUpTo l.starts (get_or l.lines.items k 0) (128 * k);
}
