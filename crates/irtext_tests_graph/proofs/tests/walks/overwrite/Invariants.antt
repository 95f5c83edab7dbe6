use Rattle.std.proofs.Common.{length}
use Rattle.irtext_graph.specs.Throughout.{all_from}
use Rattle.irtext_graph.proofs.Going.{Going}
use Rattle.irtext_tests_graph.proofs.tests.walks.overwrite.Given as goal

abbrev pub invariant-loop-at : goal.invariant-loop-at
invariant-loop-at l = record { so_far : Going (λ _. 7) (λ _. 7) l.fn.graph l.graph l.o l.at }

abbrev pub decreases-loop-at : goal.decreases-loop-at
decreases-loop-at l = length (all_from l.fn.graph l.o l.at)
