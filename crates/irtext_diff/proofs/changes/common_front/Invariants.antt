-- The lines so far are the same.
use Rattle.irtext_diff.specs.Changes.{SameLines}
use Rattle.irtext_diff.proofs.changes.common_front.Given as goal

abbrev pub invariant-loop-count : goal.invariant-loop-count
invariant-loop-count l = SameLines l.old l.new l.from.old l.from.new l.count
