use Rattle.std.proofs.Common.{◌≡◌, ◌≤◌, map, drop}
use Rattle.irtext_base.specs.Locations.{location_view, in_row}
use Rattle.irtext_base.specs.Visits.{visited, row_visited}
use Rattle.irtext_base.specs.Weights.{weight_of, weight_all}
use Rattle.irtext_base.proofs.location.visit.+visit.Given as goal

abbrev pub decreases-visit : goal.decreases-visit
decreases-visit g l = weight_of l.location.now

abbrev pub decreases-visit_all : goal.decreases-visit_all
decreases-visit_all g l = weight_all l.locations.now

-- what is visited so far, and then what is left, is all that is to be visited
abbrev pub invariant-visit-loop-next : goal.invariant-visit-loop-next
invariant-visit-loop-next g l = record {
  visited : visited (g.V.Visitor.visit l.visitor) l.state (location_view l.next) ≡ visited (g.V.Visitor.visit l.visitor) l.initial.state (location_view l.fn.location);
  inside : weight_of l.next ≤ weight_of l.fn.location;
}

abbrev pub invariant-visit_all-loop-location : goal.invariant-visit_all-loop-location
invariant-visit_all-loop-location g l =
    row_visited (g.V.Visitor.visit l.visitor) l.state (in_row (map location_view (drop l.location-index l.locations)))
    ≡ row_visited (g.V.Visitor.visit l.visitor) l.initial.state (in_row (map location_view l.locations))
