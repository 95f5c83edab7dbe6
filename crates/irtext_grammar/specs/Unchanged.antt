-- Between functions: what a context contains of what was parsed so far: each complete operation and block with its data, at its place,
-- and what is open. Of operands and successors only the number is stated here: the machine of names says which they are.
use Rattle.std.specs.Prelude.{◌≡◌, ◌⊎◌, ℕ, List, [], ◌∷◌, ◌++◌, length, map, Option, Some, None, IsSome, ⊤}
use Rattle.irtext_base.specs.Text.{Text}
use Rattle.irtext_base.specs.Format.{Id}
use Rattle.irtext_base.specs.Faults.{id_of}
use Rattle.irtext_base.specs.declared.location.Location.{Location}
use Rattle.irtext_context.specs.Context.{ContextView, OperationView, BlockView, RegionView, known, operation, block, region}
use Rattle.irtext_graph.specs.declared.arena.Ptr.{Ptr}
use Rattle.irtext_graph.specs.declared.object.Operation.{Operation}
use Rattle.irtext_graph.specs.declared.object.BasicBlock.{BasicBlock}
use Rattle.irtext_graph.specs.declared.object.Region.{Region}
use Rattle.irtext_graph.specs.declared.object.Object.{Object}
use Rattle.irtext_graph.specs.declared.object.Object.TheVariants.{TheOperation, TheBlock, TheRegion}
use Rattle.irtext_graph.specs.Chained.{Among}
use Rattle.irtext_graph.specs.Graph.{GraphView, parent}
use Rattle.irtext_graph.specs.Parts.{operands, successors}
use Rattle.irtext_grammar.specs.Contexts.Held.{entries_of}
use Rattle.irtext_grammar.specs.Grammar.Forest as forest
use Rattle.irtext_grammar.specs.Grammar.Forest.{Regions, no_regions, Blocks, no_blocks, Operations, no_operations}
use Rattle.irtext_grammar.specs.Grammar.Tree.{Attribute, Op, Head, Brace, Tree, operand_names, successor_labels}
use Rattle.irtext_grammar.specs.Graphs.Build.{put_all, read_names, plain_entry, inline_entries}
use Rattle.irtext_grammar.specs.Names.Acts.{result_types, entries_if}
use Rattle.irtext_grammar.specs.Building.{Building, Unfinished, operation_so_far, region_so_far, but_its_mark}

-- an operation's own data: its place, its id, how many operands and successors it has, the types of its results, and its attributes
pub record OwnSoFar (T A : Type 0) : Type 0 where
  pub place : ℕ
  pub id : Id
  pub operands : ℕ
  pub successors : ℕ
  pub types : List T
  pub entries : List (Text × Attribute A)

module _ {T A : Type 0} where
  -- the own data of an operation that was parsed
  abbrev pub own_of : Op ℕ T A → OwnSoFar T A
  own_of o = record {
    place = o.place;
    id = o.id;
    operands = length (operand_names o);
    successors = length (successor_labels o);
    types = result_types o.body;
    entries = put_all [] (inline_entries o ++ read_names (map (λ n. n.text) o.names));
  }

  -- the attributes of a block that was parsed
  abbrev pub head_entries : Head ℕ T A → List (Text × Attribute A)
  head_entries h = put_all [] (map plain_entry (entries_if h.attributes) ++ read_names (map (λ a. a.0.text) h.arguments))

  module _ (IsLocation : ℕ → Location A → Type 0) where
    -- an operation of a context has this data
    pub record HasOwn (view : OperationView T A) (own : OwnSoFar T A) : Type 0 where
      pub id : id_of view.id ≡ own.id
      pub types : view.result_types ≡ known own.types
      pub entries : entries_of view.attributes ≡ own.entries
      pub location : IsLocation own.place view.loc

    -- a block of a context has this header
    pub record HasHead (view : BlockView T A) (h : Head ℕ T A) : Type 0 where
      pub label : view.label ≡ Some h.label.text
      pub types : view.arg_types ≡ known (map (λ a. a.1) h.arguments)
      pub entries : entries_of view.attributes ≡ head_entries h
      pub location : IsLocation h.label.place view.loc

  -- an operation of a context has as many operands and successors as this data
  pub record HasUses (c : ContextView T A) (p : Ptr Operation) (own : OwnSoFar T A) : Type 0 where
    pub operands_are : length (operands c.graph p) ≡ own.operands
    pub successors_are : length (successors c.graph p) ≡ own.successors

  module _ (IsLocation : Object → ℕ → Location A → Type 0) where
    module _ (c : ContextView T A) (whole : List Object) where
      abbrev mutual
        -- these regions contain what was parsed, and each is complete
        pub RegionsHold : List (Ptr Region) → Regions (Op ℕ T A) (Head ℕ T A) (Brace ℕ) → Type 0
        RegionsHold [] no_regions = ⊤
        RegionsHold (r ∷ rs) (forest.region brace bs more) =
            Among (TheRegion r) whole × ((view : RegionView) × (region c r ≡ Some view) × BlocksHold view.blocks bs) × RegionsHold rs more
        RegionsHold _ _ = ⊥

        -- the same of these blocks
        pub BlocksHold : List (Ptr BasicBlock) → Blocks (Op ℕ T A) (Head ℕ T A) (Brace ℕ) → Type 0
        BlocksHold [] no_blocks = ⊤
        BlocksHold (b ∷ bs) (forest.block h os more) =
            Among (TheBlock b) whole × ((view : BlockView T A) × (block c b ≡ Some view) × HasHead (IsLocation (TheBlock b)) view h × OperationsHold view.operations os) × BlocksHold bs more
        BlocksHold _ _ = ⊥

        -- the same of these operations
        pub OperationsHold : List (Ptr Operation) → Operations (Op ℕ T A) (Head ℕ T A) (Brace ℕ) → Type 0
        OperationsHold [] no_operations = ⊤
        OperationsHold (p ∷ ps) (forest.operation o rs more) =
            Among (TheOperation p) whole × ((view : OperationView T A) × (operation c p ≡ Some view) × HasOwn (IsLocation (TheOperation p)) view (own_of o) × HasUses c p (own_of o) × RegionsHold view.regions rs) × OperationsHold ps more
        OperationsHold _ _ = ⊥

-- What is open, in a context: an operation, with its data so far; one that waits for its mark; a region, with its last block, if that is
-- open.
pub data OpenAt (T A : Type 0) : Type 0 where
  operation_under : Ptr Operation → OwnSoFar T A → OpenAt T A
  ended_under : Ptr Operation → OpenAt T A
  region_under : Ptr Region → Option (Ptr BasicBlock) → OpenAt T A

-- the region that is this object, if it is one
abbrev pub region_in : Option Object → List (Ptr Region)
region_in (Some (TheRegion r)) = r ∷ []
region_in _ = []

-- the operation that is this object, if it is one
abbrev pub operation_in : Option Object → List (Ptr Operation)
operation_in (Some (TheOperation p)) = p ∷ []
operation_in _ = []

module _ {T A : Type 0} where
  -- the object of an open frame, as a child in the next outer one
  abbrev pub as_inner : OpenAt T A → Option Object
  as_inner (operation_under p own) = Some (TheOperation p)
  as_inner (ended_under p) = Some (TheOperation p)
  as_inner (region_under r last) = Some (TheRegion r)

  -- the objects of an open frame
  abbrev pub objects_under : OpenAt T A → List Object
  objects_under (operation_under p own) = TheOperation p ∷ []
  objects_under (ended_under p) = TheOperation p ∷ []
  objects_under (region_under r None) = TheRegion r ∷ []
  objects_under (region_under r (Some b)) = TheBlock b ∷ TheRegion r ∷ []

  -- the objects of all open frames, the innermost first
  abbrev pub open_objects : List (OpenAt T A) → List Object
  open_objects [] = []
  open_objects (at ∷ ats) = objects_under at ++ open_objects ats

  module _ (IsLocation : Object → ℕ → Location A → Type 0) (c : ContextView T A) (whole : List Object) where
    -- An open operation has its data so far, and its regions; the one that is open in it comes last.
    pub record OperationIsOpen (p : Ptr Operation) (own : OwnSoFar T A) (rs : Regions (Op ℕ T A) (Head ℕ T A) (Brace ℕ)) (inner : Option Object) : Type 0 where
      pub view : OperationView T A
      pub is : operation c p ≡ Some view
      pub has : HasOwn (IsLocation (TheOperation p)) view own
      pub uses : HasUses c p own
      pub done : List (Ptr Region)
      pub regions : view.regions ≡ done ++ region_in inner
      pub hold : RegionsHold IsLocation c whole done rs

    -- An open region has its complete blocks, and after them these.
    pub record RegionIsOpen (r : Ptr Region) (bs : Blocks (Op ℕ T A) (Head ℕ T A) (Brace ℕ)) (last : List (Ptr BasicBlock)) : Type 0 where
      pub view : RegionView
      pub is : region c r ≡ Some view
      pub done : List (Ptr BasicBlock)
      pub blocks : view.blocks ≡ done ++ last
      pub hold : BlocksHold IsLocation c whole done bs

    -- An open block has its header, and its operations; the one that is open in it comes last.
    pub record BlockIsOpen (b : Ptr BasicBlock) (h : Head ℕ T A) (os : Operations (Op ℕ T A) (Head ℕ T A) (Brace ℕ)) (inner : Option Object) : Type 0 where
      pub view : BlockView T A
      pub is : block c b ≡ Some view
      pub has : HasHead (IsLocation (TheBlock b)) view h
      pub done : List (Ptr Operation)
      pub operations : view.operations ≡ done ++ operation_in inner
      pub hold : OperationsHold IsLocation c whole done os

    -- an open frame is what was parsed of it, and what is open in it comes last
    abbrev pub IsOpenAt : OpenAt T A → Unfinished T A → Option Object → Type 0
    IsOpenAt (operation_under p own) (operation_so_far at id rs) inner = (own.place ≡ at) × (own.id ≡ id) × OperationIsOpen p own rs inner
    IsOpenAt (ended_under p) (but_its_mark o rs) inner = (inner ≡ None) × OperationIsOpen p (own_of o) rs None
    IsOpenAt (region_under r None) (region_so_far bs None) inner = (inner ≡ None) × RegionIsOpen r bs []
    IsOpenAt (region_under r (Some b)) (region_so_far bs (Some last)) inner = RegionIsOpen r bs (b ∷ []) × BlockIsOpen b last.0 last.1 inner
    IsOpenAt _ _ inner = ⊥

    -- all open frames are what was parsed of them, the innermost first
    abbrev pub AreOpenAt : List (OpenAt T A) → List (Unfinished T A) → Option Object → Type 0
    AreOpenAt [] [] inner = ⊤
    AreOpenAt (at ∷ ats) (u ∷ us) inner = IsOpenAt at u inner × AreOpenAt ats us (as_inner at)
    AreOpenAt _ _ inner = ⊥

    -- the tree is under the pointer, once it is complete
    abbrev pub TreeHolds : Option (Ptr Operation) → Option (Tree ℕ T A) → Type 0
    TreeHolds None None = ⊤
    TreeHolds (Some p) (Some t) = OperationsHold IsLocation c whole (p ∷ []) (forest.operation t.own t.regions no_operations)
    TreeHolds _ _ = ⊥

  -- an object is present: an operation that is no placeholder, a block with a parent, or a region
  abbrev pub IsThere : ContextView T A → Object → Type 0
  IsThere c (TheOperation p) = IsSome (operation c p)
  IsThere c (TheBlock b) = IsSome (block c b) × IsSome (parent c.graph (TheBlock b))
  IsThere c (TheRegion r) = IsSome (region c r)

-- no object occurs twice
abbrev pub AreApart : List Object → Type 0
AreApart [] = ⊤
AreApart (o ∷ os) = (Among o os → ⊥) × AreApart os

module _ {T A : Type 0} (IsLocation : Object → ℕ → Location A → Type 0) where
  -- The context contains what was parsed so far: what is complete, what is open under these pointers, and the tree under its pointer.
  -- Each of these objects is present; no open object is complete, and none of them occurs twice.
  pub record HoldsSoFar (c : ContextView T A) (whole : List Object) (ats : List (OpenAt T A)) (root : Option (Ptr Operation)) (b : Building T A) : Type 0 where
    pub are_open : AreOpenAt IsLocation c whole ats b.unfinished None
    pub tree : TreeHolds IsLocation c whole root b.tree
    pub whole_there : (o : Object) → Among o whole → IsThere c o
    pub open_there : (o : Object) → Among o (open_objects ats) → IsThere c o
    pub not_whole : (o : Object) → Among o (open_objects ats) → Among o whole → ⊥
    pub apart : AreApart (open_objects ats)

-- the operation has as many operands and successors as it had
pub record UsesAsMany {O B T : Type 0} (g k : GraphView O B T) (p : Ptr Operation) : Type 0 where
  pub as_many_operands : length (operands k p) ≡ length (operands g p)
  pub as_many_successors : length (successors k p) ≡ length (successors g p)

module _ {T A : Type 0} where
  -- an object is unchanged: its data, the types of its results or arguments, how many operands and successors it has, and its children;
  -- the parents of blocks and regions are unchanged, too
  abbrev pub IsAsItWas : ContextView T A → ContextView T A → Object → Type 0
  IsAsItWas old new (TheOperation p) = (operation new p ≡ operation old p) × UsesAsMany old.graph new.graph p
  IsAsItWas old new (TheBlock b) = (block new b ≡ block old b) × (parent new.graph (TheBlock b) ≡ parent old.graph (TheBlock b))
  IsAsItWas old new (TheRegion r) = region new r ≡ region old r

  -- every object that was present is unchanged, except these, and every object that is present was present, or is one of these
  pub record ModifiesOnly (but : List Object) (old new : ContextView T A) : Type 0 where
    pub spared : (o : Object) → IsThere old o → (Among o but → ⊥) → IsAsItWas old new o
    pub brought : (o : Object) → IsThere new o → IsThere old o ⊎ Among o but
