-- What appending to the graph of a context says of the context.
use Rattle.std.proofs.Common.{◌≡◌, ℕ, Option, Some, Result, Ok, Err, refl}
use Rattle.std.specs.Prelude.{OnOk}
use Rattle.irtext_context.specs.Context.{ContextView, KeepsOlder, with_graph}
use Rattle.irtext_context.specs.declared.base.block.BlockData.{BlockData}
use Rattle.irtext_context.specs.declared.base.operation.OperationData.{OperationData}
use Rattle.irtext_graph.specs.declared.arena.Ptr.{Ptr}
use Rattle.irtext_graph.specs.declared.object.BasicBlock.{BasicBlock}
use Rattle.irtext_graph.specs.declared.object.Operation.{Operation}
use Rattle.irtext_graph.specs.declared.object.Object.TheVariants.{TheBlock, TheOperation}
use Rattle.irtext_graph.specs.Graph as graphs
use Rattle.irtext_graph.specs.Graph.{GraphView, Appends}
use Rattle.irtext_names.specs.Placing.{PlacedIn}

module _ {T A : Type 0} (old : ContextView T A) (new : GraphView (Option (OperationData A)) (BlockData A) (Option T)) where
  -- the operation was appended to the block, in the context
  pub placed_in : {X E : Type 0} (b : Ptr BasicBlock) (op : Ptr Operation) (r : Result X E) → OnOk r (Appends old.graph new (TheBlock b) (TheOperation op)) → OnOk r (PlacedIn (Some b) old (with_graph old new) op)
  placed_in b op (Ok x) h = (h, refl, refl)
  placed_in b op (Err e) h = tt

  -- what is older is unchanged in the context too
  pub keeps_with : (m : ℕ) → graphs.KeepsOlder m old.graph new → KeepsOlder m old (with_graph old new)
  keeps_with m h = record { graph = h; paths = λ i p e. e; dialects = refl }
