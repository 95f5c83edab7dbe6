-- Everything nested in an object, in preorder, and changes of the data of one object or of all of these.
use Rattle.std.specs.Prelude.{◌≡◌, ◌≢◌, ◌+◌, ℕ, suc, List, length, Option}
use Rattle.std.specs.Option.{option_map}
use Rattle.irtext_graph.specs.declared.arena.Ptr.{Ptr}
use Rattle.irtext_graph.specs.declared.object.BasicBlock.{BasicBlock}
use Rattle.irtext_graph.specs.declared.object.Object.{Object}
use Rattle.irtext_graph.specs.declared.object.Object.TheVariants.{TheBlock}
use Rattle.irtext_graph.specs.Content.{Content, Content.{AnOperation, ABlock, ARegion}}
use Rattle.irtext_graph.specs.Graph.{GraphView, KeepsRest, parent, children, content, IsInside, IsNew}
use Rattle.irtext_graph.specs.Objects.{eq_object}
use Rattle.irtext_graph.specs.Preorder.{onward}

-- an object whose data changed: an operation's by the first function, and a block's by the second
abbrev pub changed : {O B T : Type 0} → (O → O) → (B → B) → Content O B T → Content O B T
changed on_operation on_block (AnOperation n c) = AnOperation n (record c { data_of = on_operation c.data_of })
changed on_operation on_block (ABlock n c) = ABlock n (record c { data_of = on_block c.data_of })
changed on_operation on_block (ARegion n c) = ARegion n c

module _ {O B T : Type 0} where
  -- the number of slots for objects
  abbrev pub places : GraphView O B T → ℕ
  places g = length g.operations.cells + length g.blocks.cells + length g.regions.cells

  -- the objects in o from one of them on, in preorder
  abbrev pub all_from : GraphView O B T → Object → Option Object → List Object
  all_from g o at = onward eq_object (children g) (parent g) (suc (places g)) o at

  -- neither o nor anything nested in it was made before the mark
  abbrev pub IsNewInside : ℕ → GraphView O B T → Object → Type 0
  IsNewInside m g o = (q : Object) → IsInside g o q → IsNew m g q

  -- o is no block, and no block is nested in it
  abbrev pub HoldsNoBlocks : GraphView O B T → Object → Type 0
  HoldsNoBlocks g o = (b : Ptr BasicBlock) → IsInside g o (TheBlock b) → ⊥

  -- the content, the parent and the children of an object are unchanged
  pub record SameObject (old new : GraphView O B T) (q : Object) : Type 0 where
    pub what : content new q ≡ content old q
    pub holder : parent new q ≡ parent old q
    pub items : children new q ≡ children old q

  -- an object's data changed; its parent, its children and all else are unchanged
  pub record ChangedObject (old new : GraphView O B T) (q : Object) (on_operation : O → O) (on_block : B → B) : Type 0 where
    pub what : content new q ≡ option_map (changed on_operation on_block) (content old q)
    pub holder : parent new q ≡ parent old q
    pub items : children new q ≡ children old q

  -- the data of one object changed, and nothing else
  pub record EditsObject (old new : GraphView O B T) (o : Object) (on_operation : O → O) (on_block : B → B) : Type 0 where
    pub here : ChangedObject old new o on_operation on_block
    pub others : (q : Object) → q ≢ o → SameObject old new q
    pub rest : KeepsRest old new

  -- the data of o and of everything nested in it changed, and nothing else
  pub record EditsInside (old new : GraphView O B T) (o : Object) (on_operation : O → O) (on_block : B → B) : Type 0 where
    pub inside : (q : Object) → IsInside old o q → ChangedObject old new q on_operation on_block
    pub others : (q : Object) → (IsInside old o q → ⊥) → SameObject old new q
    pub rest : KeepsRest old new
