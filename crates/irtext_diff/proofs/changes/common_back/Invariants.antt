-- The lines so far are the same.
use Rattle.std.proofs.Common.{◌-◌}
use Rattle.irtext_diff.specs.Changes.{SameLines}
use Rattle.irtext_diff.proofs.changes.common_back.Given as goal

abbrev pub invariant-loop-count : goal.invariant-loop-count
invariant-loop-count l = SameLines l.old l.new (l.to.old - l.count) (l.to.new - l.count) l.count
