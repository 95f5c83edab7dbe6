use Rattle.irtext_tests_graph.proofs.AllNew.{closed_below_all}
use Rattle.irtext_tests_graph.proofs.tests.script.clears.Goals as goal

pub roll_back-requires : goal.roll_back-requires
roll_back-requires c = record { closed = closed_below_all _ }
