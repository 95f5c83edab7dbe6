use Rattle.std.proofs.Common.{◌≡◌, map, take}
use Rattle.irtext_graph.specs.Linking.{unlinked}
use Rattle.irtext_graph.proofs.new_uses.many_unlinked_uses.Given as goal

abbrev pub invariant-loop-def : goal.invariant-loop-def
invariant-loop-def g l = record {
  made : l.uses.items ≡ map unlinked (take l.def-index l.defs);
}
