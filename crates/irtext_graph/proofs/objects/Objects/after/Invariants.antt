use Rattle.std.proofs.Common.{◌≡◌, ◌∷◌, Some, suc}
use Rattle.irtext_graph.specs.Nested.{Within}
use Rattle.irtext_graph.specs.Objects.{up, kids, Lives, eq_object}
use Rattle.irtext_graph.specs.Preorder.{left, after_inside, slots}
use Rattle.irtext_graph.proofs.Depth.{depth_of}
use Rattle.irtext_graph.proofs.objects.Objects.after.Given as goal

abbrev pub invariant-loop-o : goal.invariant-loop-o
invariant-loop-o g l = record {
  lives : Lives l.self l.at;
  inside : Within (up l.self) l.o l.at;
  next : left l.self l.o (Some l.fn.q) ≡ l.fn.q ∷ after_inside eq_object (kids l.self) (up l.self) (suc (slots l.self)) l.o (suc (slots l.self)) (Some l.at);
}

abbrev pub decreases-loop-o : goal.decreases-loop-o
decreases-loop-o g l = depth_of l.self (Some l.at)
