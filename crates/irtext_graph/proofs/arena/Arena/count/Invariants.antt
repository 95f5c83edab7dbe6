use Rattle.std.proofs.Common.{◌≡◌, ◌≤◌, take, count_by}
use Rattle.irtext_graph.specs.Arena.{is_full}
use Rattle.irtext_graph.proofs.arena.Arena.count.Given as goal

abbrev pub invariant-loop-i : goal.invariant-loop-i
invariant-loop-i g l = record {
  counted : l.n ≡ count_by is_full (take l.i l.self.slots.items);
  low : l.n ≤ l.i;
}
