-- The places beside an index of a list, and the successors of a block.
use Rattle.std.specs.Prelude.{ℕ, zero, suc, List, [], Option, Some, None, slice_get}
use Rattle.std.specs.List.{last_or}
use Rattle.irtext_graph.specs.declared.arena.Ptr.{Ptr}
use Rattle.irtext_graph.specs.declared.object.BasicBlock.{BasicBlock}
use Rattle.irtext_graph.specs.declared.object.Operation.{Operation}
use Rattle.irtext_graph.specs.Graph.{GraphView}
use Rattle.irtext_graph.specs.Parts.{operations_in, successors}

module _ {X : Type 0} where
  -- the item just before an index, if there is one
  abbrev pub item_before : List X → ℕ → Option X
  item_before xs zero = None
  item_before xs (suc i) = slice_get xs i

  -- the last item, if there is one
  abbrev pub last_item : List X → Option X
  last_item xs = last_or None xs

module _ {O B T : Type 0} where
  -- the successors of an operation, if there is one
  abbrev pub successors_from : GraphView O B T → Option (Ptr Operation) → List (Ptr BasicBlock)
  successors_from g None = []
  successors_from g (Some p) = successors g p

  -- the successors of a block: those of its last operation
  abbrev pub succs : GraphView O B T → Ptr BasicBlock → List (Ptr BasicBlock)
  succs g b = successors_from g (last_item (operations_in g b))
