-- A graph as its callers see it: the live objects under their pointers, without links, capacities and the lists of free slots.
use Rattle.std.specs.Prelude.{◌≡◌, ◌≢◌, ◌≤◌, ◌+◌, ◌++◌, ◌∷◌, ℕ, List, [], length, map, slice_get, Option, Some, None, IsSome, false}
use Rattle.std.specs.Option.{option_map}
use Rattle.std.specs.List.{remove}
use Rattle.irtext_graph.specs.declared.arena.Ptr.{Ptr}
use Rattle.irtext_graph.specs.declared.arena.Entry.{Entry}
use Rattle.irtext_graph.specs.declared.graph.Counters.{Counters}
use Rattle.irtext_graph.specs.declared.object.Operation.{Operation}
use Rattle.irtext_graph.specs.declared.object.BasicBlock.{BasicBlock}
use Rattle.irtext_graph.specs.declared.object.Region.{Region}
use Rattle.irtext_graph.specs.declared.object.Object.{Object}
use Rattle.irtext_graph.specs.declared.object.Value.{Value}
use Rattle.irtext_graph.specs.declared.object.Object.TheVariants.{TheOperation, TheBlock, TheRegion}
use Rattle.irtext_graph.specs.declared.objects.Objects.{Objects}
use Rattle.irtext_graph.specs.Nested.{Within, climb}
use Rattle.irtext_graph.specs.Objects.{is_older}
use Rattle.irtext_graph.specs.Store.{Store, store_of, get, generation_at, before, GivenOnce, Inserts, count}
use Rattle.irtext_graph.specs.Content.{Typed, Node, node_of, Content, Content.{AnOperation, ABlock, ARegion}, OperationContent, operation_content, BlockContent, block_content, RegionContent, region_content}

-- a graph: how many objects and values were made in it, the number of its first slot, and the live objects
pub record GraphView (O B T : Type 0) : Type 0 where
  pub made : ℕ
  pub values : ℕ
  pub first_place : ℕ
  pub operations : Store (Node BasicBlock Region (OperationContent O T))
  pub blocks : Store (Node Region Operation (BlockContent B T))
  pub regions : Store (Node Operation BasicBlock RegionContent)

module _ {P C E : Type 0} where
  -- the parent of an object, if there is one
  abbrev pub parent_of : Option (Entry (Node P C E)) → Option (Ptr P)
  parent_of None = None
  parent_of (Some e) = e.content.parent

  -- the children of an object in order, if there is one
  abbrev pub children_of : Option (Entry (Node P C E)) → List (Ptr C)
  children_of None = []
  children_of (Some e) = e.content.children

  -- how many objects were made before an object, and its content
  abbrev pub content_of : Option (Entry (Node P C E)) → Option (ℕ × E)
  content_of None = None
  content_of (Some e) = Some (e.born, e.content.content)

module _ {X : Type 0} where
  -- the slots are unchanged: their generations, and which is used next
  pub record SamePlaces (old new : Store X) : Type 0 where
    pub generations : (i : ℕ) → generation_at new i ≡ generation_at old i
    pub free : new.free ≡ old.free
    pub len : length new.cells ≡ length old.cells

-- values with these types, numbered from n
abbrev pub numbered : {T : Type 0} → ℕ → List T → List (Typed T)
numbered n [] = []
numbered n (t ∷ ts) = record { of_type = t; number = n } ∷ numbered (n + 1) ts

-- counters that are at 0
abbrev pub no_counters : Counters
no_counters = record { values = 0; first_place = 0 }

-- an object without a parent and children
abbrev pub fresh : {P C E : Type 0} → E → Node P C E
fresh content = record { parent = None; children = []; content = content }

module _ {O B T : Type 0} where
  -- the view of these objects, with this number of objects made and these counters
  abbrev pub graph_of : ℕ → Counters → Objects O B T → GraphView O B T
  graph_of made counters x = record {
    made = made;
    values = counters.values;
    first_place = counters.first_place;
    operations = store_of (node_of operation_content) x.operations;
    blocks = store_of (node_of block_content) x.blocks;
    regions = store_of (node_of region_content) x.regions;
  }

  -- a graph in which nothing was made yet, with the number of the next value and the number of the first slot
  abbrev pub begun : ℕ → ℕ → GraphView O B T
  begun values places = record {
    made = 0;
    values = values;
    first_place = places;
    operations = record { cells = []; free = None };
    blocks = record { cells = []; free = None };
    regions = record { cells = []; free = None };
  }

  -- a graph in which nothing was made yet
  abbrev pub empty : GraphView O B T
  empty = begun 0 1

  -- the view of all objects
  abbrev pub seen : Objects O B T → GraphView O B T
  seen x = graph_of 0 no_counters x

  -- the parent of an object
  abbrev pub parent : GraphView O B T → Object → Option Object
  parent g (TheOperation p) = option_map TheBlock (parent_of (get g.operations p))
  parent g (TheBlock p) = option_map TheRegion (parent_of (get g.blocks p))
  parent g (TheRegion p) = option_map TheOperation (parent_of (get g.regions p))

  -- the children of an object, in order
  abbrev pub children : GraphView O B T → Object → List Object
  children g (TheOperation p) = map TheRegion (children_of (get g.operations p))
  children g (TheBlock p) = map TheOperation (children_of (get g.blocks p))
  children g (TheRegion p) = map TheBlock (children_of (get g.regions p))

  -- the ancestor of an object that many levels up: level 1 is the parent
  abbrev pub ancestor : GraphView O B T → ℕ → Object → Option Object
  ancestor g n o = climb (parent g) n (Some o)

  -- when an object was made, and its content
  abbrev pub content : GraphView O B T → Object → Option (Content O B T)
  content g (TheOperation p) = option_map (λ d. AnOperation d.0 d.1) (content_of (get g.operations p))
  content g (TheBlock p) = option_map (λ d. ABlock d.0 d.1) (content_of (get g.blocks p))
  content g (TheRegion p) = option_map (λ d. ARegion d.0 d.1) (content_of (get g.regions p))

  -- the object is live
  abbrev pub IsLive : GraphView O B T → Object → Type 0
  IsLive g o = IsSome (content g o)

  -- the object was not made before the mark, or is not live
  abbrev pub IsNew : ℕ → GraphView O B T → Object → Type 0
  IsNew m g o = is_older m (content g o) ≡ false

  -- q is o or nested in o
  abbrev pub IsInside : GraphView O B T → Object → Object → Type 0
  IsInside g o q = Within (parent g) o q

  -- c has no parent, and k is neither c nor nested in it
  pub record CanInsert (g : GraphView O B T) (k c : Object) : Type 0 where
    pub free : parent g c ≡ None
    pub apart : IsInside g c k → ⊥

  -- the slots are unchanged, and as many objects and values were made
  pub record KeepsRest (old new : GraphView O B T) : Type 0 where
    pub operation_places : SamePlaces old.operations new.operations
    pub block_places : SamePlaces old.blocks new.blocks
    pub region_places : SamePlaces old.regions new.regions
    pub made : new.made ≡ old.made
    pub values : new.values ≡ old.values
    pub first_place : new.first_place ≡ old.first_place

  -- the same objects are live, only parents and children may differ, and the slots are unchanged
  pub record KeepsObjects (old new : GraphView O B T) : Type 0 where
    pub contents : (q : Object) → content new q ≡ content old q
    pub rest : KeepsRest old new

  -- c became the last child of k
  pub record Appends (old new : GraphView O B T) (k c : Object) : Type 0 where
    pub here : children new k ≡ children old k ++ c ∷ []
    pub others : (q : Object) → q ≢ k → children new q ≡ children old q
    pub parent_here : parent new c ≡ Some k
    pub parents : (q : Object) → q ≢ c → parent new q ≡ parent old q
    pub objects : KeepsObjects old new

  -- no pointer of an object is given twice
  pub record GivesOnce (old new : GraphView O B T) : Type 0 where
    pub operations : GivenOnce Operation old.operations new.operations
    pub blocks : GivenOnce BasicBlock old.blocks new.blocks
    pub regions : GivenOnce Region old.regions new.regions

  -- nothing that was given is given again: the counters do not go back, and no pointer comes twice; slots have the numbers that they had
  pub record CountsOn (old new : GraphView O B T) : Type 0 where
    pub made : old.made ≤ new.made
    pub values : old.values ≤ new.values
    pub first_place : new.first_place ≡ old.first_place
    pub pointers : GivesOnce old new

  -- what was made before the mark is unchanged
  pub record KeepsOlder (m : ℕ) (old new : GraphView O B T) : Type 0 where
    pub operations : (p : Ptr Operation) → before m new.operations p ≡ before m old.operations p
    pub blocks : (p : Ptr BasicBlock) → before m new.blocks p ≡ before m old.blocks p
    pub regions : (p : Ptr Region) → before m new.regions p ≡ before m old.regions p
    pub made : old.made ≤ new.made
    pub values : old.values ≤ new.values
    pub first_place : new.first_place ≡ old.first_place
    pub pointers : GivesOnce old new

  -- a region was made under a new pointer
  pub record MakesRegion (old new : GraphView O B T) (p : Ptr Region) : Type 0 where
    pub regions : Inserts old.regions new.regions p (record { born = old.made; content = fresh (record {}) })
    pub operations : new.operations ≡ old.operations
    pub blocks : new.blocks ≡ old.blocks
    pub made : new.made ≡ old.made + 1
    pub values : new.values ≡ old.values
    pub first_place : new.first_place ≡ old.first_place

  -- a block with these arguments was made under a new pointer
  pub record MakesBlock (old new : GraphView O B T) (p : Ptr BasicBlock) (value : B) (types : List T) : Type 0 where
    pub blocks : Inserts old.blocks new.blocks p (record { born = old.made; content = fresh (record { data_of = value; arguments = numbered old.values types }) })
    pub operations : new.operations ≡ old.operations
    pub regions : new.regions ≡ old.regions
    pub made : new.made ≡ old.made + 1
    pub values : new.values ≡ old.values + length types
    pub first_place : new.first_place ≡ old.first_place

  -- an operation with these results, operands and successors was made under a new pointer
  pub record MakesOperation (old new : GraphView O B T) (p : Ptr Operation) (value : O) (types : List T)
      (operands : List Value) (successors : List (Ptr BasicBlock)) : Type 0 where
    pub operations : Inserts old.operations new.operations p (record { born = old.made; content = fresh (record { data_of = value; operands = operands; successors = successors; results = numbered old.values types }) })
    pub blocks : new.blocks ≡ old.blocks
    pub regions : new.regions ≡ old.regions
    pub made : new.made ≡ old.made + 1
    pub values : new.values ≡ old.values + length types
    pub first_place : new.first_place ≡ old.first_place

  -- c was removed from its parent
  pub record Unlinks (old new : GraphView O B T) (c : Object) : Type 0 where
    pub free : parent new c ≡ None
    pub parents : (q : Object) → q ≢ c → parent new q ≡ parent old q
    pub left : (k : Object) (i : ℕ) → parent old c ≡ Some k → slice_get (children old k) i ≡ Some c → children new k ≡ remove (children old k) i
    pub others : (q : Object) → parent old c ≢ Some q → children new q ≡ children old q
    pub objects : KeepsObjects old new

  -- the number of live objects
  abbrev pub num_live : GraphView O B T → ℕ
  num_live g = count g.operations + count g.blocks + count g.regions
