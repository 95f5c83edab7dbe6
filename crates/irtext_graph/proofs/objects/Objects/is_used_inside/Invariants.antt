use Rattle.std.proofs.Common.{◌≡◌, ◌⊎◌, List, Some}
use Rattle.irtext_graph.specs.declared.object.Site.{Site}
use Rattle.irtext_graph.specs.Nested.{Within}
use Rattle.irtext_graph.specs.Chained.{Among}
use Rattle.irtext_graph.specs.Objects.{up}
use Rattle.irtext_graph.specs.Uses.{val, prv, nxt}
use Rattle.irtext_graph.specs.Erasing.{user}
use Rattle.irtext_graph.proofs.Chains.{Path}
use Rattle.irtext_graph.proofs.Sites.{to_end}
use Rattle.irtext_graph.proofs.objects.Objects.is_used_inside.Given as goal

abbrev pub invariant-loop-at : goal.invariant-loop-at
invariant-loop-at g l = record {
  rest : List Site;
  path : Path (val l.self) (prv l.self) (nxt l.self) l.fn.d l.at rest;
  looked : (u : Site) → val l.self u ≡ Some l.fn.d → Within (up l.self) l.o (user u) ⊎ Among u rest;
}

abbrev pub decreases-loop-at : goal.decreases-loop-at
decreases-loop-at g l = to_end l.self l.at
