-- What an object is, apart from its parent, its children and any links.
use Rattle.std.specs.Prelude.{ℕ, List, Option, map}
use Rattle.irtext_few.specs.Growing.{listed}
use Rattle.irtext_graph.specs.declared.arena.Arena.{Arena}
use Rattle.irtext_graph.specs.declared.nest.Nest.{Nest}
use Rattle.irtext_graph.specs.Store.{Store, store_of}
use Rattle.irtext_graph.specs.declared.arena.Ptr.{Ptr}
use Rattle.irtext_graph.specs.declared.object.BasicBlock.{BasicBlock}
use Rattle.irtext_graph.specs.declared.object.Value.{Value}
use Rattle.irtext_graph.specs.declared.objects.Definition.{Definition}
use Rattle.irtext_graph.specs.declared.objects.OperationData.{OperationData}
use Rattle.irtext_graph.specs.declared.objects.BlockData.{BlockData}
use Rattle.irtext_graph.specs.declared.objects.RegionData.{RegionData}

-- a value's type and number
pub record Typed (T : Type 0) : Type 0 where
  pub of_type : T
  pub number : ℕ

-- an operation's data, its operands and successors, and its results
pub record OperationContent (O T : Type 0) : Type 0 where
  pub data_of : O
  pub operands : List Value
  pub successors : List (Ptr BasicBlock)
  pub results : List (Typed T)

-- a block's data and its arguments
pub record BlockContent (B T : Type 0) : Type 0 where
  pub data_of : B
  pub arguments : List (Typed T)

-- a region has no content
pub record RegionContent : Type 0 where

-- how many objects were made before an object, and its content
pub data Content (O B T : Type 0) : Type 0 where
  AnOperation : ℕ → OperationContent O T → Content O B T
  ABlock : ℕ → BlockContent B T → Content O B T
  ARegion : ℕ → RegionContent → Content O B T

-- a value without its uses
abbrev pub typed : {T : Type 0} → Definition T → Typed T
typed d = record { of_type = d.of_type; number = d.number }

-- an operation without its links
abbrev pub operation_content : {O T : Type 0} → OperationData O T → OperationContent O T
operation_content d = record {
  data_of = d.data;
  operands = map (λ u. u.def) d.operands;
  successors = map (λ u. u.def) d.successors;
  results = map typed d.results;
}

-- a block without its links
abbrev pub block_content : {B T : Type 0} → BlockData B T → BlockContent B T
block_content d = record { data_of = d.data; arguments = map typed d.arguments }

-- a region
abbrev pub region_content : RegionData → RegionContent
region_content d = record {}

-- an object in the forest: its parent, its children in order, and its content
pub record Node (P C E : Type 0) : Type 0 where
  pub parent : Option (Ptr P)
  pub children : List (Ptr C)
  pub content : E

-- an object in the forest, without the capacity of its list, with its data as `see` shows it
abbrev pub node_of : {P C D E : Type 0} → (D → E) → Nest P C D → Node P C E
node_of see n = record { parent = n.parent; children = listed n.children; content = see n.data }

-- the objects of an arena in the forest, with all their data
abbrev pub nodes : {P C D : Type 0} → Arena (Nest P C D) → Store (Node P C D)
nodes a = store_of (node_of (λ d. d)) a
