use Rattle.irtext_tests_graph.proofs.Kept.{keeps_thrice}
use Rattle.irtext_tests_graph.proofs.tests.back.makes_three.Goals as goal

pub returns : goal.returns
returns g c = record {
  kept = keeps_thrice _ _ _ _ c.make_operation-operation.ensures.kept c.make_block.ensures.kept c.make_region.ensures.kept;
}
