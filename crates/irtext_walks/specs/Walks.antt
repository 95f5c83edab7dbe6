-- What is left of a walk.
use Rattle.std.specs.Prelude.{◌≡◌, List, Option, Some, IfSome}
use Rattle.std.specs.Option.{option_map}
use Rattle.irtext_graph.specs.declared.arena.Ptr.{Ptr}
use Rattle.irtext_graph.specs.declared.object.BasicBlock.{BasicBlock}
use Rattle.irtext_graph.specs.declared.object.Object.{Object}
use Rattle.irtext_graph.specs.declared.object.Object.TheVariants.{TheOperation, TheBlock}
use Rattle.irtext_graph.specs.declared.object.Operation.{Operation}
use Rattle.irtext_graph.specs.Chained.{Lists}
use Rattle.irtext_graph.specs.Graph.{GraphView, IsLive, IsInside}
use Rattle.irtext_graph.specs.Throughout.{all_from}
use Rattle.irtext_graph_queries.specs.Nested.{operations_among}
use Rattle.irtext_walks.specs.Kinds.{blocks_among}
use Rattle.irtext_walks.specs.Postorder.{post_from, postorder_of}

module _ {O B T : Type 0} where
  -- the object is live, and it is o or nested in o
  pub record IsLiveInside (g : GraphView O B T) (o q : Object) : Type 0 where
    pub alive : IsLive g q
    pub within : IsInside g o q

  -- the same of each object that a walk is at
  abbrev pub IsAtLive : GraphView O B T → Object → Option Object → Type 0
  IsAtLive g o at = IfSome at (IsLiveInside g o)

  -- o and everything nested in it, in preorder
  abbrev pub all_in : GraphView O B T → Object → List Object
  all_in g o = all_from g o (Some o)

  -- the operations in o from one of them on, in preorder
  abbrev pub operations_from : GraphView O B T → Object → Option (Ptr Operation) → List (Ptr Operation)
  operations_from g o at = operations_among (all_from g o (option_map TheOperation at))

  -- the operations in o, in preorder
  abbrev pub operations_inside : GraphView O B T → Object → List (Ptr Operation)
  operations_inside g o = operations_among (all_in g o)

  -- the blocks in o from one of them on, in preorder
  abbrev pub blocks_from : GraphView O B T → Object → Option (Ptr BasicBlock) → List (Ptr BasicBlock)
  blocks_from g o at = blocks_among (all_from g o (option_map TheBlock at))

  -- the blocks in o, in preorder
  abbrev pub blocks_inside : GraphView O B T → Object → List (Ptr BasicBlock)
  blocks_inside g o = blocks_among (all_in g o)

  -- the operations in o from one of them on, in postorder
  abbrev pub post_operations_from : GraphView O B T → Object → Option (Ptr Operation) → List (Ptr Operation)
  post_operations_from g o at = operations_among (post_from g o (option_map TheOperation at))

  -- the blocks in o from one of them on, in postorder
  abbrev pub post_blocks_from : GraphView O B T → Object → Option (Ptr BasicBlock) → List (Ptr BasicBlock)
  post_blocks_from g o at = blocks_among (post_from g o (option_map TheBlock at))

  -- the operations in o, in postorder
  abbrev pub post_operations_inside : GraphView O B T → Object → List (Ptr Operation)
  post_operations_inside g o = operations_among (postorder_of g o)

  -- the blocks in o, in postorder
  abbrev pub post_blocks_inside : GraphView O B T → Object → List (Ptr BasicBlock)
  post_blocks_inside g o = blocks_among (postorder_of g o)

  -- walks are as before: what comes from an object on, in both orders, and what is live inside an object
  pub record KeepsWalks (old new : GraphView O B T) : Type 0 where
    pub preorder : (o : Object) (at : Option Object) → all_from new o at ≡ all_from old o at
    pub postorder : (o : Object) (at : Option Object) → post_from new o at ≡ post_from old o at
    pub all : (o : Object) → postorder_of new o ≡ postorder_of old o
    pub inside : (o q : Object) → IsLiveInside old o q → IsLiveInside new o q

  -- the list has each operation in o once, and no other
  abbrev pub AreOperationsIn : GraphView O B T → Object → List (Ptr Operation) → Type 0
  AreOperationsIn g o ps = Lists (λ p. IsInside g o (TheOperation p)) ps

  -- the list has each block in o once, and no other
  abbrev pub AreBlocksIn : GraphView O B T → Object → List (Ptr BasicBlock) → Type 0
  AreBlocksIn g o bs = Lists (λ b. IsInside g o (TheBlock b)) bs
