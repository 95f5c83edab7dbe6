use Rattle.irtext_tests_graph.proofs.Kept.{keeps_thrice}
use Rattle.irtext_tests_graph.proofs.tests.script.Script.make_nine.Goals as goal

pub returns : goal.returns
returns g c = record {
  kept = keeps_thrice _ _ _ _ c.make_three.ensures.kept c.make_three-2.ensures.kept c.make_three-3.ensures.kept;
}
