use Rattle.std.proofs.Common.{arith}
use Rattle.irtext_graph.proofs.Marks.{can_roll_back, operations_back, regions_back}
use Rattle.irtext_tests_graph.proofs.tests.back.gives_regions_back.Goals as goal

pub roll_back-requires : goal.roll_back-requires
roll_back-requires g c = record {
  closed = can_roll_back c.made-mark.result _ _ (c.makes_with_two-made.ensures.kept c.made-mark.result (let e = c.made-mark.ensures.value in omega (arith, e))) c.made-mark.ensures.closed;
}

pub returns-clause-operations : goal.returns-clause-operations
returns-clause-operations g c =
    operations_back c.made-mark.result _ _ _ c.made-mark.ensures.older (c.makes_with_two-made.ensures.kept c.made-mark.result (let e = c.made-mark.ensures.value in omega (arith, e))) c.roll_back.ensures.back

pub returns-clause-regions : goal.returns-clause-regions
returns-clause-regions g c =
    regions_back c.made-mark.result _ _ _ c.made-mark.ensures.older (c.makes_with_two-made.ensures.kept c.made-mark.result (let e = c.made-mark.ensures.value in omega (arith, e))) c.roll_back.ensures.back
