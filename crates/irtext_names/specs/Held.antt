-- For callers: everything nested in an operation of a context, in the form that the tree of a text builds: the forest of what the arenas
-- contain, in which operands and successors are places in the forest, found from their pointers.
use Rattle.std.specs.Prelude.{◌≡◌, ℕ, suc, true, cond, List, [], ◌∷◌, ◌++◌, map, Option, Some, None, is_some, unwrap_or, ⊤}
use Rattle.std.specs.Option.{option_map}
use Rattle.irtext_base.specs.Faults.{id_of}
use Rattle.irtext_base.specs.Paths.{Written}
use Rattle.irtext_context.specs.Context.{ContextView, OperationView, BlockView, known, operation, block}
use Rattle.irtext_graph.specs.declared.arena.Ptr.{Ptr}
use Rattle.irtext_graph.specs.declared.object.Operation.{Operation}
use Rattle.irtext_graph.specs.declared.object.BasicBlock.{BasicBlock}
use Rattle.irtext_graph.specs.declared.object.Region.{Region}
use Rattle.irtext_graph.specs.declared.object.Object.{Object}
use Rattle.irtext_graph.specs.declared.object.Object.TheVariants.{TheOperation, TheBlock, TheRegion}
use Rattle.irtext_graph.specs.declared.object.Value.{Value}
use Rattle.irtext_graph.specs.declared.object.Value.TheVariants.{Result, Argument}
use Rattle.irtext_graph.specs.declared.object.Defined.{Defined}
use Rattle.irtext_graph.specs.declared.object.Defined.TheVariants.{OfValue, OfBlock}
use Rattle.irtext_graph.specs.Objects.{eq_object}
use Rattle.irtext_graph.specs.Parts.{operands, successors}
use Rattle.irtext_grammar.specs.Contexts.Held.{location_over, entries_of, known_types}
use Rattle.irtext_grammar.specs.Contexts.Nested.{pointers}
use Rattle.irtext_grammar.specs.Grammar.Forest as forest
use Rattle.irtext_grammar.specs.Grammar.Forest.{Regions, no_regions, Blocks, no_blocks, Operations, no_operations, Root, AllRegions}
use Rattle.irtext_grammar.specs.Graphs.Build.{Built, BuiltOp, BuiltBlock}
use Rattle.irtext_grammar.specs.Names.Script.{Path, Place, result, argument, block_at}

-- regions of pointers, each with what is nested in it
abbrev pub PtrRegions : Type 0
PtrRegions = Regions (Ptr Operation) (Ptr BasicBlock) (Ptr Region)

-- blocks of pointers, each with what is nested in it
abbrev pub PtrBlocks : Type 0
PtrBlocks = Blocks (Ptr Operation) (Ptr BasicBlock) (Ptr Region)

-- operations of pointers, each with what is nested in it
abbrev pub PtrOperations : Type 0
PtrOperations = Operations (Ptr Operation) (Ptr BasicBlock) (Ptr Region)

-- ---- the path of each object
abbrev mutual
  -- each object in regions with its path; j is the index of the first region
  pub placed_regions : Path → ℕ → PtrRegions → List (Object × Path)
  placed_regions p j no_regions = []
  placed_regions p j (forest.region r bs rs) = (TheRegion r, j ∷ p) ∷ (placed_blocks (j ∷ p) 0 bs ++ placed_regions p (suc j) rs)

  -- each object in blocks with its path; k is the index of the first block
  pub placed_blocks : Path → ℕ → PtrBlocks → List (Object × Path)
  placed_blocks p k no_blocks = []
  placed_blocks p k (forest.block b os bs) = (TheBlock b, k ∷ p) ∷ (placed_operations (k ∷ p) 0 os ++ placed_blocks p (suc k) bs)

  -- each object in operations with its path; i is the index of the first
  pub placed_operations : Path → ℕ → PtrOperations → List (Object × Path)
  placed_operations p i no_operations = []
  placed_operations p i (forest.operation o rs os) = (TheOperation o, i ∷ p) ∷ (placed_regions (i ∷ p) 0 rs ++ placed_operations p (suc i) os)

-- each object of a root with its path; the path of the root is empty
abbrev pub placed_under : Root (Ptr Operation) (Ptr BasicBlock) (Ptr Region) → List (Object × Path)
placed_under t = (TheOperation t.own, []) ∷ placed_regions [] 0 t.regions

-- the path of an object, if it is in the list
abbrev pub path_of : List (Object × Path) → Object → Option Path
path_of [] o = None
path_of (e ∷ es) o = cond (eq_object e.0 o) (Some e.1) (path_of es o)

module _ (all : List (Object × Path)) where
  -- the place of a value: a result of an operation or an argument of a block, if that is in the list
  abbrev pub value_place : Value → Option Place
  value_place (Result p i) = option_map (λ q. result q i) (path_of all (TheOperation p))
  value_place (Argument b i) = option_map (λ q. argument q i) (path_of all (TheBlock b))

  -- the place of a block, if it is in the list
  abbrev pub block_place : Ptr BasicBlock → Option Place
  block_place b = option_map block_at (path_of all (TheBlock b))

  -- the place of a value or a block
  abbrev pub defined_place : Defined → Option Place
  defined_place (OfValue v) = value_place v
  defined_place (OfBlock b) = block_place b

-- ---- the contents
module _ {T A : Type 0} (c : ContextView T A) (all : List (Object × Path)) where
  -- an operation without its regions: its operands and successors are places in the list, and its location has the context's paths
  abbrev pub held_op : Ptr Operation → OperationView T A → BuiltOp T A (Written A)
  held_op p view = record {
    id = id_of view.id;
    result_types = known_types view.result_types;
    operands = map (value_place all) (operands c.graph p);
    successors = map (block_place all) (successors c.graph p);
    attributes = entries_of view.attributes;
    location = location_over c.paths view.loc;
  }

  -- a block without its operations; a block without a label has the empty one
  abbrev pub held_head : BlockView T A → BuiltBlock T A (Written A)
  held_head view = record { label = unwrap_or view.label []; argument_types = known_types view.arg_types; attributes = entries_of view.attributes; location = location_over c.paths view.loc }

  abbrev mutual
    -- regions of pointers, with their contents; operations and blocks that are not live are left out
    pub held_regions : PtrRegions → Regions (BuiltOp T A (Written A)) (BuiltBlock T A (Written A)) ⊤
    held_regions no_regions = no_regions
    held_regions (forest.region r bs rs) = forest.region tt (held_blocks bs) (held_regions rs)

    -- the same of blocks
    pub held_blocks : PtrBlocks → Blocks (BuiltOp T A (Written A)) (BuiltBlock T A (Written A)) ⊤
    held_blocks no_blocks = no_blocks
    held_blocks (forest.block b os bs) = elim (block c b) [ Some view ↦ forest.block (held_head view) (held_operations os) (held_blocks bs) | None ↦ held_blocks bs ]

    -- the same of operations
    pub held_operations : PtrOperations → Operations (BuiltOp T A (Written A)) (BuiltBlock T A (Written A)) ⊤
    held_operations no_operations = no_operations
    held_operations (forest.operation p rs os) = elim (operation c p) [ Some view ↦ forest.operation (held_op p view) (held_regions rs) (held_operations os) | None ↦ held_operations os ]

-- the operation under a pointer, if there is one, with everything nested in it
abbrev pub held_root : {T A : Type 0} → ContextView T A → Ptr Operation → Option (Built T A (Written A))
held_root c p =
    let all = placed_under (pointers c.graph p) in
    option_map (λ view. record { own = held_op c all p view; regions = held_regions c all (pointers c.graph p).regions }) (operation c p)

-- ---- everything is live
module _ {T A : Type 0} (c : ContextView T A) where
  -- an operation is live and no placeholder, and the types of its results are known
  pub record OperationWhole (p : Ptr Operation) : Type 0 where
    pub view : OperationView T A
    pub is : operation c p ≡ Some view
    pub types : List T
    pub known_as : view.result_types ≡ known types

  -- a block is live and has a label, and the types of its arguments are known
  pub record BlockWhole (b : Ptr BasicBlock) : Type 0 where
    pub view : BlockView T A
    pub is : block c b ≡ Some view
    pub labelled : is_some view.label ≡ true
    pub types : List T
    pub known_as : view.arg_types ≡ known types

  -- everything nested in an operation is live, nothing in it is a placeholder, and each block has a label
  abbrev pub IsWhole : Ptr Operation → Type 0
  IsWhole p = OperationWhole p × AllRegions OperationWhole BlockWhole (λ r. ⊤) (pointers c.graph p).regions
