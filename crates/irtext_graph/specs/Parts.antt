-- The parts of objects as a graph's callers see them: data, operands, successors, results, arguments, and children by their kind.
use Rattle.std.specs.Prelude.{List, [], slice_get, Option, Some, None, IsSome}
use Rattle.std.specs.Option.{option_map}
use Rattle.irtext_graph.specs.declared.arena.Ptr.{Ptr}
use Rattle.irtext_graph.specs.declared.object.Operation.{Operation}
use Rattle.irtext_graph.specs.declared.object.BasicBlock.{BasicBlock}
use Rattle.irtext_graph.specs.declared.object.Region.{Region}
use Rattle.irtext_graph.specs.declared.object.Value.{Value}
use Rattle.irtext_graph.specs.declared.object.Value.TheVariants.{Result, Argument}
use Rattle.irtext_graph.specs.declared.objects.Objects.{Objects}
use Rattle.irtext_graph.specs.declared.objects.Definition.{Definition}
use Rattle.irtext_graph.specs.Arena as arena
use Rattle.irtext_graph.specs.Store.{get}
use Rattle.irtext_graph.specs.Uses.{result_in, argument_in}
use Rattle.irtext_graph.specs.Content.{Typed, OperationContent, BlockContent}
use Rattle.irtext_graph.specs.Graph.{GraphView, children_of}

module _ {O T : Type 0} where
  -- the operands of an operation, if there is one
  abbrev pub operands_of : Option (OperationContent O T) → List Value
  operands_of None = []
  operands_of (Some c) = c.operands

  -- the successors of an operation, if there is one
  abbrev pub successors_of : Option (OperationContent O T) → List (Ptr BasicBlock)
  successors_of None = []
  successors_of (Some c) = c.successors

  -- the results of an operation, if there is one
  abbrev pub results_of : Option (OperationContent O T) → List (Typed T)
  results_of None = []
  results_of (Some c) = c.results

module _ {B T : Type 0} where
  -- the arguments of a block, if there is one
  abbrev pub arguments_of : Option (BlockContent B T) → List (Typed T)
  arguments_of None = []
  arguments_of (Some c) = c.arguments

module _ {O B T : Type 0} where
  -- the content of an operation
  abbrev pub operation_at : GraphView O B T → Ptr Operation → Option (OperationContent O T)
  operation_at g p = option_map (λ e. e.content.content) (get g.operations p)

  -- the content of a block
  abbrev pub block_at : GraphView O B T → Ptr BasicBlock → Option (BlockContent B T)
  block_at g p = option_map (λ e. e.content.content) (get g.blocks p)

  -- the operands of an operation, in order
  abbrev pub operands : GraphView O B T → Ptr Operation → List Value
  operands g p = operands_of (operation_at g p)

  -- the successors of an operation, in order
  abbrev pub successors : GraphView O B T → Ptr Operation → List (Ptr BasicBlock)
  successors g p = successors_of (operation_at g p)

  -- the results of an operation, in order
  abbrev pub results : GraphView O B T → Ptr Operation → List (Typed T)
  results g p = results_of (operation_at g p)

  -- the arguments of a block, in order
  abbrev pub arguments : GraphView O B T → Ptr BasicBlock → List (Typed T)
  arguments g p = arguments_of (block_at g p)

  -- the regions of an operation, in order
  abbrev pub regions : GraphView O B T → Ptr Operation → List (Ptr Region)
  regions g p = children_of (get g.operations p)

  -- the blocks of a region, in order
  abbrev pub blocks : GraphView O B T → Ptr Region → List (Ptr BasicBlock)
  blocks g r = children_of (get g.regions r)

  -- the operations of a block, in order
  abbrev pub operations_in : GraphView O B T → Ptr BasicBlock → List (Ptr Operation)
  operations_in g b = children_of (get g.blocks b)

  -- a value's type and number, if it is defined
  abbrev pub value_at : GraphView O B T → Value → Option (Typed T)
  value_at g (Result p i) = slice_get (results g p) i
  value_at g (Argument p i) = slice_get (arguments g p) i

  -- the value is defined
  abbrev pub IsDefinedValue : GraphView O B T → Value → Type 0
  IsDefinedValue g v = IsSome (value_at g v)

  -- the definition of a value, with its uses, if it is defined
  abbrev pub definition_at : Objects O B T → Value → Option (Definition T)
  definition_at x (Result p i) = result_in (arena.get x.operations p) i
  definition_at x (Argument p i) = argument_in (arena.get x.blocks p) i
