-- Removing what was made since a mark, and when that is possible.
use Rattle.std.specs.Prelude.{◌≡◌, ℕ, List, [], Option, Some, None, slice_get}
use Rattle.irtext_graph.specs.declared.arena.Entry.{Entry}
use Rattle.irtext_graph.specs.declared.arena.Ptr.{Ptr}
use Rattle.irtext_graph.specs.declared.object.BasicBlock.{BasicBlock}
use Rattle.irtext_graph.specs.declared.object.Object.{Object}
use Rattle.irtext_graph.specs.declared.object.Object.TheVariants.{TheOperation, TheBlock}
use Rattle.irtext_graph.specs.declared.object.Operation.{Operation}
use Rattle.irtext_graph.specs.declared.object.Region.{Region}
use Rattle.irtext_graph.specs.declared.object.Value.{Value}
use Rattle.irtext_graph.specs.declared.object.Value.TheVariants.{Result, Argument}
use Rattle.irtext_graph.specs.declared.objects.Objects.{Objects}
use Rattle.irtext_graph.specs.Arena.{Sheds}
use Rattle.irtext_graph.specs.Content.{Node, OperationContent}
use Rattle.irtext_graph.specs.Graph.{GraphView, parent, children, IsNew}
use Rattle.irtext_graph.specs.Store.{get, before, Returns}

-- the operation or the block that defines a value
abbrev pub owner : Value → Object
owner (Result p i) = TheOperation p
owner (Argument b i) = TheBlock b

module _ {O T : Type 0} where
  -- the operands of an operation, if there is one
  abbrev pub operands_of : Option (Entry (Node BasicBlock Region (OperationContent O T))) → List Value
  operands_of None = []
  operands_of (Some e) = e.content.content.operands

  -- the successors of an operation, if there is one
  abbrev pub successors_of : Option (Entry (Node BasicBlock Region (OperationContent O T))) → List (Ptr BasicBlock)
  successors_of None = []
  successors_of (Some e) = e.content.content.successors

module _ {O B T : Type 0} where
  -- each object is unchanged, or was not made before the mark and is gone
  pub record ShedsAll (mark : ℕ) (old new : Objects O B T) : Type 0 where
    pub operations : Sheds mark old.operations new.operations
    pub blocks : Sheds mark old.blocks new.blocks
    pub regions : Sheds mark old.regions new.regions

  -- the children, the parent and the users of an object that was not made before the mark were not made before it either
  pub record IsClosedBelow (mark : ℕ) (g : GraphView O B T) : Type 0 where
    pub parents : (o k : Object) → parent g o ≡ Some k → IsNew mark g k → IsNew mark g o
    pub children : (o c : Object) (i : ℕ) → slice_get (children g o) i ≡ Some c → IsNew mark g c → IsNew mark g o
    pub operands : (p : Ptr Operation) (i : ℕ) (v : Value) → slice_get (operands_of (get g.operations p)) i ≡ Some v
        → IsNew mark g (owner v) → IsNew mark g (TheOperation p)
    pub successors : (p : Ptr Operation) (i : ℕ) (b : Ptr BasicBlock) → slice_get (successors_of (get g.operations p)) i ≡ Some b
        → IsNew mark g (TheBlock b) → IsNew mark g (TheOperation p)

  -- every live object was made before the mark
  pub record AllOlder (mark : ℕ) (g : GraphView O B T) : Type 0 where
    pub operations : (p : Ptr Operation) → before mark g.operations p ≡ get g.operations p
    pub blocks : (p : Ptr BasicBlock) → before mark g.blocks p ≡ get g.blocks p
    pub regions : (p : Ptr Region) → before mark g.regions p ≡ get g.regions p

  -- what was made before the mark is unchanged, all else is gone, and no pointer is reused
  pub record RollsBack (mark : ℕ) (old new : GraphView O B T) : Type 0 where
    pub operations : Returns Operation mark old.operations new.operations
    pub blocks : Returns BasicBlock mark old.blocks new.blocks
    pub regions : Returns Region mark old.regions new.regions
    pub made : new.made ≡ old.made
    pub values : new.values ≡ old.values
    pub first_place : new.first_place ≡ old.first_place
