use Rattle.std.proofs.Common.{◌≤◌, drop}
use Rattle.irtext_base.specs.Weights.{weight_of, weight_all}
use Rattle.irtext_grammar.proofs.KeptLocations.{WholeIsKept, ManyAreKept}
use Rattle.irtext_checked.proofs.parts.+kept.Given as goal

abbrev pub decreases-location_kept : goal.decreases-location_kept
decreases-location_kept g l = weight_of l.location.now

abbrev pub decreases-locations_kept : goal.decreases-locations_kept
decreases-locations_kept g l = weight_all l.locations.now

-- once it is known of what is left, it is known of the whole
abbrev pub invariant-location_kept-loop-next : goal.invariant-location_kept-loop-next
invariant-location_kept-loop-next g l = record {
  kept : WholeIsKept l.ctx.paths l.next → WholeIsKept l.ctx.paths l.fn.location;
  inside : weight_of l.next ≤ weight_of l.fn.location;
}

-- once it is known of the locations that are left, it is known of all
abbrev pub invariant-locations_kept-loop-location : goal.invariant-locations_kept-loop-location
invariant-locations_kept-loop-location g l =
    ManyAreKept l.ctx.paths (drop l.location-index l.locations) → ManyAreKept l.ctx.paths l.locations
