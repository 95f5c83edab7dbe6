use Rattle.std.proofs.Common.{◌≡◌, ◌<◌, ◌≤◌, ◌/◌, ◌++◌, true, string_bytes}
use Rattle.std.specs.Fmt.{digits}
use Rattle.irtext_base.specs.Appending.{OnlyAppends}
use Rattle.irtext_parts.specs.HexTexts.{IsPower16}
use Rattle.irtext_parts.proofs.hex.write_digits.Given as goal

abbrev pub invariant-loop-place : goal.invariant-loop-place
invariant-loop-place l = (0 < l.place) × IsPower16 l.place × (1 < l.place → 1 ≤ l.bits / l.place)
    × (string_bytes l.f ≡ string_bytes l.fn.f ++ digits 16 true (l.bits / l.place)) × OnlyAppends l.fn.f l.f

abbrev pub decreases-loop-place : goal.decreases-loop-place
decreases-loop-place l = l.place
