use Rattle.std.proofs.Common.{◌≡◌, ◌+◌, ℕ}
use Rattle.irtext_graph.specs.Graph.{IsLive, ancestor}
use Rattle.irtext_graph.proofs.graph.Graph.ancestor.Given as goal

abbrev pub invariant-loop : goal.invariant-loop
invariant-loop g l = record {
  there : IsLive l.self l.at;
  on : (n : ℕ) → n + l.counter ≡ l.levels → ancestor l.self n l.at ≡ ancestor l.self l.levels l.fn.o;
}
