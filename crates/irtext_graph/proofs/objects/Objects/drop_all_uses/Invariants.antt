use Rattle.std.proofs.Common.{length}
use Rattle.irtext_graph.specs.Preorder.{left}
use Rattle.irtext_graph.proofs.Dropping.{Dropping}
use Rattle.irtext_graph.proofs.objects.Objects.drop_all_uses.Given as goal

abbrev pub invariant-loop-at : goal.invariant-loop-at
invariant-loop-at g l = record { so_far : Dropping l.fn.self l.self l.o l.at }

abbrev pub decreases-loop-at : goal.decreases-loop-at
decreases-loop-at g l = length (left l.self l.o l.at)
