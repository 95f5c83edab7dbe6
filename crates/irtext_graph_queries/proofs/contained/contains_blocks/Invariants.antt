use Rattle.std.proofs.Common.{◌≡◌, ◌<◌, ℕ, Some, slice_get}
use Rattle.irtext_graph.specs.declared.arena.Ptr.{Ptr}
use Rattle.irtext_graph.specs.declared.object.BasicBlock.{BasicBlock}
use Rattle.irtext_graph.specs.declared.object.Object.TheVariants.{TheBlock}
use Rattle.irtext_graph.specs.Graph.{IsLive}
use Rattle.irtext_graph_queries.proofs.contained.contains_blocks.Given as goal

abbrev pub invariant-loop-b : goal.invariant-loop-b
invariant-loop-b g l = record {
  there : (i : ℕ) (b : Ptr BasicBlock) → i < l.b-index → slice_get l.blocks i ≡ Some b → IsLive l.graph (TheBlock b);
}
