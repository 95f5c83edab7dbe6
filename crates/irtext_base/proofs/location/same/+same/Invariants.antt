use Rattle.std.proofs.Common.{◌≡◌, ◌≤◌, ◌+◌, suc, map, drop}
use Rattle.irtext_base.specs.Locations.{location_view, in_row}
use Rattle.irtext_base.specs.SameLocations.{same_view, same_rows}
use Rattle.irtext_base.specs.Weights.{weight_of, weight_all}
use Rattle.irtext_base.proofs.location.same.+same.Given as goal

abbrev pub decreases-is_same : goal.decreases-is_same
decreases-is_same g l = suc (weight_of l.a.now + weight_of l.a.now)

abbrev pub decreases-all_but_last : goal.decreases-all_but_last
decreases-all_but_last g l = weight_of l.a.now + weight_of l.a.now

abbrev pub decreases-all_but_last_fused : goal.decreases-all_but_last_fused
decreases-all_but_last_fused g l = suc (weight_all l.locations.now + weight_all l.locations.now)

abbrev pub decreases-all_but_last_of_rows : goal.decreases-all_but_last_of_rows
decreases-all_but_last_of_rows g l = weight_all l.a.now + weight_all l.a.now

abbrev pub decreases-are_same : goal.decreases-are_same
decreases-are_same g l = weight_all l.a.now + weight_all l.a.now

abbrev pub decreases-is_same-loop-same : goal.decreases-is_same-loop-same
decreases-is_same-loop-same g l = weight_of l.next

-- what is left decides
abbrev pub invariant-is_same-loop-same : goal.invariant-is_same-loop-same
invariant-is_same-loop-same g l = record {
  same : same_view g.A.PartialEq.eq (location_view l.next) (location_view l.other) ≡ same_view g.A.PartialEq.eq (location_view l.fn.a) (location_view l.fn.b);
  inside : weight_of l.next ≤ weight_of l.fn.a;
}

abbrev pub invariant-are_same-loop-i : goal.invariant-are_same-loop-i
invariant-are_same-loop-i g l =
    same_rows g.A.PartialEq.eq (in_row (map location_view (drop l.i l.a))) (in_row (map location_view (drop l.i l.b))) ≡ same_rows g.A.PartialEq.eq (in_row (map location_view l.a)) (in_row (map location_view l.b))
