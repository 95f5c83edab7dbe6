-- Changes of the data of operations and blocks, and what is unchanged.
use Rattle.std.specs.Prelude.{◌≡◌, set, Option, Some, None}
use Rattle.irtext_graph.specs.declared.arena.Entry.{Entry}
use Rattle.irtext_graph.specs.declared.arena.Ptr.{Ptr}
use Rattle.irtext_graph.specs.declared.object.Operation.{Operation}
use Rattle.irtext_graph.specs.declared.object.BasicBlock.{BasicBlock}
use Rattle.irtext_graph.specs.declared.object.Region.{Region}
use Rattle.irtext_graph.specs.Store.{Store, Edits, get, object_of}
use Rattle.irtext_graph.specs.Content.{Node, OperationContent, BlockContent}
use Rattle.irtext_graph.specs.Graph.{GraphView}

module _ {X K : Type 0} where
  -- the objects with the content of this object changed, if there is one
  abbrev pub with_object : Option (Entry X) → Store X → Ptr K → (X → X) → Store X
  with_object None s p change = s
  with_object (Some e) s p change = record s { cells = set s.cells p.index (record { generation = p.generation; object = Some (object_of change e) }) }

  -- the objects with the content of one changed
  abbrev pub edited_at : Store X → Ptr K → (X → X) → Store X
  edited_at s p change = with_object (get s p) s p change

-- an operation's node with its data changed
abbrev pub with_data : {O T : Type 0} → (O → O) → Node BasicBlock Region (OperationContent O T) → Node BasicBlock Region (OperationContent O T)
with_data change n = record n { content = record n.content { data_of = change n.content.data_of } }

-- a block's node with its data changed
abbrev pub with_block : {B T : Type 0} → (B → B) → Node Region Operation (BlockContent B T) → Node Region Operation (BlockContent B T)
with_block change n = record n { content = record n.content { data_of = change n.content.data_of } }

module _ {O B T : Type 0} where
  -- the graph with this data of one operation
  abbrev pub with_operation_data : GraphView O B T → Ptr Operation → O → GraphView O B T
  with_operation_data g p d = record g { operations = edited_at g.operations p (with_data (λ _. d)) }

  -- the graph with this data of one block
  abbrev pub with_block_data : GraphView O B T → Ptr BasicBlock → B → GraphView O B T
  with_block_data g p d = record g { blocks = edited_at g.blocks p (with_block (λ _. d)) }

  -- the data of one operation changed, and nothing else
  pub record EditsOperation (old new : GraphView O B T) (p : Ptr Operation) (change : O → O) : Type 0 where
    pub operations : Edits old.operations new.operations p (with_data change)
    pub blocks : new.blocks ≡ old.blocks
    pub regions : new.regions ≡ old.regions
    pub made : new.made ≡ old.made
    pub values : new.values ≡ old.values
    pub first_place : new.first_place ≡ old.first_place

  -- the data of one block changed, and nothing else
  pub record EditsBlock (old new : GraphView O B T) (p : Ptr BasicBlock) (change : B → B) : Type 0 where
    pub operations : new.operations ≡ old.operations
    pub blocks : Edits old.blocks new.blocks p (with_block change)
    pub regions : new.regions ≡ old.regions
    pub made : new.made ≡ old.made
    pub values : new.values ≡ old.values
    pub first_place : new.first_place ≡ old.first_place
