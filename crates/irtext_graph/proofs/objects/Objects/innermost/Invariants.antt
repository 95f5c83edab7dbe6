use Rattle.std.proofs.Common.{◌≡◌, ◌-◌, suc, Some, length}
use Rattle.irtext_graph.specs.Nested.{Within}
use Rattle.irtext_graph.specs.Objects.{up, kids, Lives}
use Rattle.irtext_graph.specs.Preorder.{slots}
use Rattle.irtext_graph.proofs.Depth.{depth_of}
use Rattle.irtext_graph.proofs.objects.Objects.innermost.Given as goal

abbrev pub invariant-loop-count : goal.invariant-loop-count
invariant-loop-count g l = record {
  inside : Within (up l.self) l.fn.o l.at;
  lives : Lives l.self l.at;
  counted : l.count ≡ length (kids l.self l.at);
}

abbrev pub decreases-loop-count : goal.decreases-loop-count
decreases-loop-count g l = suc (slots l.self) - depth_of l.self (Some l.at)
