use Rattle.std.proofs.Common.{length}
use Rattle.std.specs.Option.{option_map}
use Rattle.irtext_graph.specs.declared.object.Object.TheVariants.{TheOperation}
use Rattle.irtext_walks.specs.Walks.{IsAtLive, operations_from}
use Rattle.irtext_tests_walks.proofs.tests.written.number_all.Given as goal

abbrev pub invariant-loop-at : goal.invariant-loop-at
invariant-loop-at l = record { there : IsAtLive l.holder.graph (TheOperation l.root) (option_map TheOperation l.at) }

abbrev pub decreases-loop-at : goal.decreases-loop-at
decreases-loop-at l = length (operations_from l.holder.graph (TheOperation l.root) l.at)
