use Rattle.std.proofs.Common.{◌≡◌, length}
use Rattle.irtext_parse_locations.specs.Checked.{items_wrong}
use Rattle.irtext_parse_locations.proofs.checked.items_checked.Given as goal

-- nothing is wrong with those before
abbrev pub invariant-loop-entry : goal.invariant-loop-entry
invariant-loop-entry g l = (l.stream ≡ l.fn.stream) × (items_wrong l.fn.once.entries l.fn.items ≡ items_wrong l.fn.once.entries l.left)

abbrev pub decreases-loop-entry : goal.decreases-loop-entry
decreases-loop-entry g l = length l.left
