-- What is left of the iterators over walks.
use Rattle.std.specs.Prelude.{List}
use Rattle.irtext_graph.specs.declared.arena.Ptr.{Ptr}
use Rattle.irtext_graph.specs.declared.object.BasicBlock.{BasicBlock}
use Rattle.irtext_graph.specs.declared.object.Operation.{Operation}
use Rattle.irtext_walks.specs.Walks.{operations_from, blocks_from, post_operations_from, post_blocks_from}
use Rattle.irtext_walks.specs.declared.iter.Operations.{Operations}
use Rattle.irtext_walks.specs.declared.iter.Blocks.{Blocks}
use Rattle.irtext_walks.specs.declared.iter.PostOperations.{PostOperations}
use Rattle.irtext_walks.specs.declared.iter.PostBlocks.{PostBlocks}

module _ {O B T : Type 0} where
  -- the operations that are still to come
  abbrev pub operations_left : Operations O B T → List (Ptr Operation)
  operations_left w = operations_from w.graph.now w.root w.at

  -- the blocks that are still to come
  abbrev pub blocks_left : Blocks O B T → List (Ptr BasicBlock)
  blocks_left w = blocks_from w.graph.now w.root w.at

  -- the operations that are still to come in postorder
  abbrev pub post_operations_left : PostOperations O B T → List (Ptr Operation)
  post_operations_left w = post_operations_from w.graph.now w.root w.at

  -- the blocks that are still to come in postorder
  abbrev pub post_blocks_left : PostBlocks O B T → List (Ptr BasicBlock)
  post_blocks_left w = post_blocks_from w.graph.now w.root w.at
