-- Making a region as the last of an operation.
use Rattle.std.specs.Prelude.{◌≡◌, ◌+◌, ◌++◌, ◌∷◌, [], Some}
use Rattle.irtext_graph.specs.declared.arena.Ptr.{Ptr}
use Rattle.irtext_graph.specs.declared.object.Operation.{Operation}
use Rattle.irtext_graph.specs.declared.object.Region.{Region}
use Rattle.irtext_graph.specs.Store.{Inserts, Edits}
use Rattle.irtext_graph.specs.Content.{Node}
use Rattle.irtext_graph.specs.Graph.{GraphView}

-- an object's node with another child, which is the last
abbrev pub with_child : {P C E : Type 0} → Ptr C → Node P C E → Node P C E
with_child c n = record n { children = n.children ++ c ∷ [] }

module _ {O B T : Type 0} where
  -- an empty region was made under a new pointer, as the last of an operation
  pub record AddsRegion (old new : GraphView O B T) (op : Ptr Operation) (r : Ptr Region) : Type 0 where
    pub operations : Edits old.operations new.operations op (with_child r)
    pub regions : Inserts old.regions new.regions r (record { born = old.made; content = record { parent = Some op; children = []; content = record {} } })
    pub blocks : new.blocks ≡ old.blocks
    pub made : new.made ≡ old.made + 1
    pub values : new.values ≡ old.values
    pub first_place : new.first_place ≡ old.first_place
