use Rattle.std.proofs.Common.{arith}
use Rattle.irtext_graph.proofs.Closed.{closed_kept}
use Rattle.irtext_tests_graph.proofs.tests.script.Script.make_and_give_back.Goals as goal

pub roll_back-requires : goal.roll_back-requires
roll_back-requires g c = record {
  closed = closed_kept c.made-mark.result _ _ (c.make_nine.ensures.kept c.made-mark.result (let e = c.made-mark.ensures.value in omega (arith, e))) c.made-mark.ensures.closed;
}
