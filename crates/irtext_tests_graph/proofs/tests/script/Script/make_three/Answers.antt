use Rattle.irtext_tests_graph.proofs.Kept.{keeps_thrice}
use Rattle.irtext_tests_graph.proofs.tests.script.Script.make_three.Goals as goal

pub returns : goal.returns
returns g c = record {
  kept = keeps_thrice _ _ _ _ c.make_one.ensures.kept c.make_one-2.ensures.kept c.make_one-3.ensures.kept;
}
