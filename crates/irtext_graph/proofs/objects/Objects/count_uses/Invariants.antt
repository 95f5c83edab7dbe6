use Rattle.std.proofs.Common.{◌≡◌, ◌-◌, ◌+◌, length}
use Rattle.irtext_graph.specs.Uses.{val, prv, nxt}
use Rattle.irtext_graph.proofs.Listed.{Walk}
use Rattle.irtext_graph.proofs.objects.Objects.count_uses.Given as goal

abbrev pub invariant-loop-at : goal.invariant-loop-at
invariant-loop-at g l = record {
  walk : Walk (val l.self) (prv l.self) (nxt l.self) l.fn.d l.at;
  count : l.n + length walk.rest ≡ length walk.list;
}

abbrev pub decreases-loop-at : goal.decreases-loop-at
decreases-loop-at g l = 18446744073709551615 - l.n
