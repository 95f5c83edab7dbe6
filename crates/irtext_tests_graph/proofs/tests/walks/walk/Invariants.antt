use Rattle.std.proofs.Common.{IfSome, length}
use Rattle.irtext_graph.specs.Graph.{IsLive, IsInside}
use Rattle.irtext_graph.specs.Throughout.{all_from}
use Rattle.irtext_tests_graph.proofs.tests.walks.walk.Given as goal

abbrev pub invariant-loop-at : goal.invariant-loop-at
invariant-loop-at l = record { inside : IfSome l.at (λ q. IsInside l.graph l.o q); there : IfSome l.at (λ q. IsLive l.graph q) }

abbrev pub decreases-loop-at : goal.decreases-loop-at
decreases-loop-at l = length (all_from l.graph l.o l.at)
