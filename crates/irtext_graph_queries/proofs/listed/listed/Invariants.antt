use Rattle.irtext_graph_queries.specs.Lists.{AreEach}
use Rattle.irtext_graph_queries.proofs.listed.listed.Given as goal

abbrev pub invariant-loop-i : goal.invariant-loop-i
invariant-loop-i g l = record {
  each : AreEach (goal.F-post g l.item l.p l.q) l.i l.all.items;
}
