-- The changes so far lead to a place in both lists.
use Rattle.std.proofs.Common.{◌≤◌, length}
use Rattle.irtext_diff.specs.Changes.{Leads}
use Rattle.irtext_diff.proofs.changes.find_changes.Given as goal

abbrev pub invariant-loop-pair : goal.invariant-loop-pair
invariant-loop-pair l = (l.walk.at.old ≤ length l.old) × (l.walk.at.new ≤ length l.new)
    × Leads l.old l.new 0 0 l.walk.changes.items l.walk.at.old l.walk.at.new
