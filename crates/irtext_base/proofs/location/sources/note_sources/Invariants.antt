use Rattle.std.proofs.Common.{◌≡◌}
use Rattle.irtext_base.specs.Locations.{location_view, all_noted}
use Rattle.irtext_base.specs.Waits.{left_noted, left_weight}
use Rattle.irtext_base.proofs.location.sources.note_sources.Given as goal

abbrev pub decreases-loop-next : goal.decreases-loop-next
decreases-loop-next g l = left_weight l.waits.items

-- what is recorded so far, and then of what waits, is all that is to be recorded
abbrev pub invariant-loop-next : goal.invariant-loop-next
invariant-loop-next g l = left_noted l.found.items l.waits.items ≡ all_noted l.fn.found.items (location_view l.fn.location)
