use Rattle.std.proofs.Common.{◌≡◌, ◌++◌, drop}
use Rattle.irtext_graph_queries.specs.Lists.{blocks_of}
use Rattle.irtext_graph_queries.proofs.block.PtrBasicBlockBlockParts.preds.Given as goal

abbrev pub invariant-loop-u : goal.invariant-loop-u
invariant-loop-u g l = record {
  met : l.all.items ++ blocks_of (g.C.HasGraph.graph l.ctx) (drop l.u-index l.u-items) ≡ blocks_of (g.C.HasGraph.graph l.ctx) l.u-items;
}
