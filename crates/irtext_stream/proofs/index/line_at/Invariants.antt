use Rattle.std.proofs.Common.{◌-◌, length}
use Rattle.irtext_stream.specs.Index.{BeginUpTo}
use Rattle.irtext_stream.proofs.index.line_at.Given as goal

abbrev pub invariant-loop-line : goal.invariant-loop-line
invariant-loop-line l = BeginUpTo l.starts l.line l.offset

abbrev pub decreases-loop-line : goal.decreases-loop-line
decreases-loop-line l = length l.starts - l.line
