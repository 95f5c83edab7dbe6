use Rattle.std.proofs.Common.{◌∙◌, ◌&&◌, ◌<◌, true, false, ap, sym, arith, length}
use Rattle.irtext_base.specs.Locations.{location_view}
use Rattle.irtext_base.specs.SameLocations.{same_view}
use Rattle.irtext_base.proofs.Inside.{row_weight, item_weight}
use Rattle.irtext_base.proofs.SameEnds.{none_same, none_left, ends_same, lengths_differ, rows_on, fused_same}
use Rattle.irtext_base.proofs.location.same.+same.Goals as goal

pub are_same-returns-then-a-b : goal.are_same-returns-then-a-b
are_same-returns-then-a-b g t c = sym (lengths_differ g.A.PartialEq.eq c.args.a.now c.args.b.now (λ e. absurd (grind (arith, c.if-a-b.true, e))))

pub are_same-is_same-requires : goal.are_same-is_same-requires
are_same-is_same-requires g t c κs within =
    (omega (arith, c.decreases, item_weight c.args.a.now c.loop-i.i c.index-a-i.result c.loop-i-test.true c.index-a-i.is), within)

pub are_same-returns-then-not-is_same : goal.are_same-returns-then-not-is_same
are_same-returns-then-not-is_same g t c =
    let there : c.loop-i.i < length c.args.b.now = grind (arith, c.if-a-b.false, c.loop-i-test.true) in
    rows_on g.A.PartialEq.eq c.args.a.now c.args.b.now c.loop-i.i c.index-a-i.result c.index-b-i.result c.is_same.result false c.loop-i-test.true there c.index-a-i.is c.index-b-i.is c.is_same.ensures c.if-not-is_same.true c.loop-i.invariant

pub are_same-loop-i-preserved : goal.are_same-loop-i-preserved
are_same-loop-i-preserved g t c =
    let there : c.loop-i.i < length c.args.b.now = grind (arith, c.if-a-b.false, c.loop-i-test.true) in
    rows_on g.A.PartialEq.eq c.args.a.now c.args.b.now c.loop-i.i c.index-a-i.result c.index-b-i.result c.is_same.result true c.loop-i-test.true there c.index-a-i.is c.index-b-i.is c.is_same.ensures c.if-not-is_same.false c.loop-i.invariant

pub all_but_last_fused-returns-clause-same : goal.all_but_last_fused-returns-clause-same
all_but_last_fused-returns-clause-same g t c =
    let there = c.deref-row.ensures.value ∙ ap (λ v. v.items) c.deref.ensures in
    let alike = sym c.is_same_metadata.ensures ∙ c.if-not-is_same_metadata.false in
    c.all_but_last_of_rows.ensures.same
    ∙ sym (fused_same g.A.PartialEq.eq c.args.other.now c.in-Fused.about c.in-Fused.row c.args.locations.now c.deref-row.result.now c.args.metadata.now c.deref-2.result.now c.in-Fused.is there c.deref-2.ensures alike)

pub all_but_last_of_rows-returns-in_default-clause-same : goal.all_but_last_of_rows-returns-in_default-clause-same
all_but_last_of_rows-returns-in_default-clause-same g t c =
    c.is_empty.ensures ∙ sym (none_same g.A.PartialEq.eq c.args.a.now c.args.b.now c.in_default.ensures.cases)

pub all_but_last_of_rows-returns-in_default-split_last-clause-same : goal.all_but_last_of_rows-returns-in_default-split_last-clause-same
all_but_last_of_rows-returns-in_default-split_last-clause-same g t c =
    sym (none_left g.A.PartialEq.eq c.args.a.now c.args.b.now c.in-Some.others.now c.in-Some.last.now c.in-Some.ensures.cases.0 c.in_default-split_last.ensures.cases)

pub all_but_last_of_rows-are_same-requires : goal.all_but_last_of_rows-are_same-requires
all_but_last_of_rows-are_same-requires g t c κs within =
    (omega (arith, c.decreases, row_weight c.args.a.now c.in-Some.others.now c.in-Some.last.now c.in-Some.ensures.cases.0), within)

pub all_but_last_of_rows-returns-clause-same : goal.all_but_last_of_rows-returns-clause-same
all_but_last_of_rows-returns-clause-same g t c =
    let E = g.A.PartialEq.eq in
    let last = c.in-Some.last.now in
    let end = c.in-Some-split_last.end.now in
    let parts = ends_same E c.args.a.now c.args.b.now c.in-Some.others.now c.in-Some-split_last.front.now last end c.in-Some.ensures.cases.0 c.in-Some-split_last.ensures.cases.0 in
    c.last_if.ensures.same ∙ (ap (λ b. b && same_view E (location_view last) (location_view end)) c.are_same.ensures ∙ sym parts)

pub all_but_last_of_rows-returns-clause-inside : goal.all_but_last_of_rows-returns-clause-inside
all_but_last_of_rows-returns-clause-inside g t c =
    omega (arith, c.last_if.ensures.inside, row_weight c.args.a.now c.in-Some.others.now c.in-Some.last.now c.in-Some.ensures.cases.0)
