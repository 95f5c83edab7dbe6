use Rattle.std.proofs.Common.{◌≡◌, length}
use Rattle.irtext_parse_locations.specs.Checked.{pairs_wrong}
use Rattle.irtext_parse_locations.proofs.checked.pairs_checked.Given as goal

-- nothing is wrong with those before
abbrev pub invariant-loop-pair : goal.invariant-loop-pair
invariant-loop-pair g l = (l.stream ≡ l.fn.stream) × (pairs_wrong l.fn.once.entries l.fn.of_block l.fn.pairs ≡ pairs_wrong l.fn.once.entries l.fn.of_block l.left)

abbrev pub decreases-loop-pair : goal.decreases-loop-pair
decreases-loop-pair g l = length l.left
