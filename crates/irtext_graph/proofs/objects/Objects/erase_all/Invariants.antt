use Rattle.irtext_graph.specs.Objects.{links}
use Rattle.irtext_graph.proofs.Erased.{Erasing}
use Rattle.irtext_graph.proofs.objects.Objects.erase_all.Given as goal

abbrev pub invariant-loop-at : goal.invariant-loop-at
invariant-loop-at g l = Erasing l.fn.self l.self l.o l.at

abbrev pub decreases-loop-at : goal.decreases-loop-at
decreases-loop-at g l = links l.self
