use Rattle.std.proofs.Common.{◌<◌, ◌≤◌, ◌/◌}
use Rattle.irtext_parts.specs.HexTexts.{IsPower16}
use Rattle.irtext_parts.proofs.hex.first_place.Given as goal

abbrev pub invariant-loop-place : goal.invariant-loop-place
invariant-loop-place l = (0 < l.place) × IsPower16 l.place × (1 < l.place → 1 ≤ l.bits / l.place)

abbrev pub decreases-loop-place : goal.decreases-loop-place
decreases-loop-place l = l.bits / l.place
