use Rattle.std.proofs.Common.{◌≡◌, ◌⊎◌, Some, length}
use Rattle.irtext_graph.specs.declared.object.Object.{Object}
use Rattle.irtext_graph.specs.Nested.{Within}
use Rattle.irtext_graph.specs.Chained.{Among}
use Rattle.irtext_graph.specs.Objects.{up, Lives}
use Rattle.irtext_graph.specs.Preorder.{left}
use Rattle.irtext_graph.specs.Erasing.{IsAllUsedInside}
use Rattle.irtext_graph.proofs.objects.Objects.can_erase.Given as goal

abbrev pub invariant-loop-at : goal.invariant-loop-at
invariant-loop-at g l = record {
  looked : (q : Object) → Within (up l.self) l.o q → IsAllUsedInside l.self l.o q ⊎ Among q (left l.self l.o l.at);
  inside : (q : Object) → l.at ≡ Some q → Within (up l.self) l.o q;
  lives : (q : Object) → l.at ≡ Some q → Lives l.self q;
}

abbrev pub decreases-loop-at : goal.decreases-loop-at
decreases-loop-at g l = length (left l.self l.o l.at)
