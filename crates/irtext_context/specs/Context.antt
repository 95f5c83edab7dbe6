-- A context as its callers see it: the graph of its operations, blocks and regions, the paths of source files, and the dialects.
use Rattle.std.specs.Prelude.{◌≡◌, ℕ, List, [], Option, Some, None, IsSome, map, option_and_then}
use Rattle.std.specs.Option.{option_map}
use Rattle.std.specs.Str.{bytes_eq}
use Rattle.indexmap.specs.IndexMap.{insert_entry}
use Rattle.irtext_base.specs.Text.{Text}
use Rattle.irtext_base.specs.Paths.{KeepsPaths}
use Rattle.irtext_base.specs.declared.base.attributes.AttrObj.{AttrObj}
use Rattle.irtext_base.specs.declared.base.identifier.OpId.{OpId}
use Rattle.irtext_base.specs.declared.location.Location.{Location}
use Rattle.irtext_graph.specs.Store.{get}
use Rattle.irtext_graph.specs.Content.{Node, Typed, OperationContent, BlockContent, RegionContent}
use Rattle.irtext_graph.specs.Graph as objects
use Rattle.irtext_graph.specs.Graph.{GraphView}
use Rattle.irtext_graph.specs.Back as back
use Rattle.irtext_graph.specs.Data as edits
use Rattle.irtext_graph.specs.Data.{edited_at, with_data, with_block}
use Rattle.irtext_graph.specs.Regions as parts
use Rattle.irtext_graph.specs.declared.arena.Entry.{Entry}
use Rattle.irtext_graph.specs.declared.arena.Ptr.{Ptr}
use Rattle.irtext_graph.specs.declared.object.BasicBlock.{BasicBlock}
use Rattle.irtext_graph.specs.declared.object.Object.{Object}
use Rattle.irtext_graph.specs.declared.object.Object.TheVariants.{TheOperation, TheBlock, TheRegion}
use Rattle.irtext_graph.specs.declared.object.Operation.{Operation}
use Rattle.irtext_graph.specs.declared.object.Region.{Region}
use Rattle.irtext_graph.specs.declared.object.Value.{Value}
use Rattle.irtext_context.specs.Dialects.{Table}
use Rattle.irtext_context.specs.declared.base.block.BlockData.{BlockData}
use Rattle.irtext_context.specs.declared.base.operation.OperationData.{OperationData}

-- an operation; the type of a result is `None` if it is not known yet
pub record OperationView (T A : Type 0) : Type 0 where
  pub id : OpId
  pub result_types : List (Option T)
  pub attributes : List (Text × AttrObj A)
  pub loc : Location A
  pub regions : List (Ptr Region)

-- a block; the type of an argument is `None` if it is not known yet
pub record BlockView (T A : Type 0) : Type 0 where
  pub label : Option Text
  pub arg_types : List (Option T)
  pub attributes : List (Text × AttrObj A)
  pub loc : Location A
  pub operations : List (Ptr Operation)

-- a region: the operation that it belongs to, and its blocks
pub record RegionView : Type 0 where
  pub parent : Option (Ptr Operation)
  pub blocks : List (Ptr BasicBlock)

-- a context: the graph of its objects, the paths that it keeps, each as bytes, and the registered dialects by their names
pub record ContextView (T A : Type 0) : Type 0 where
  pub graph : GraphView (Option (OperationData A)) (BlockData A) (Option T)
  pub paths : List (List ℕ)
  pub dialects : List (Text × Table)

-- the operation data with the attribute of a key set: it replaces the one under the key, or is appended
abbrev pub with_attribute : {A : Type 0} → Text → AttrObj A → OperationData A → OperationData A
with_attribute key attr held = record held { attributes = insert_entry bytes_eq held.attributes key attr }

-- the operation data with other attributes
abbrev pub with_attributes : {A : Type 0} → List (Text × AttrObj A) → OperationData A → OperationData A
with_attributes attributes held = record held { attributes = attributes }

-- the operation data with another location
abbrev pub with_loc : {A : Type 0} → Location A → OperationData A → OperationData A
with_loc loc held = record held { loc = loc }

-- the block data with another label, or without one
abbrev pub with_label : {A : Type 0} → Option Text → BlockData A → BlockData A
with_label label held = record held { label = label }

-- the block data with the attribute of a key set: it replaces the one under the key, or is appended
abbrev pub with_block_attribute : {A : Type 0} → Text → AttrObj A → BlockData A → BlockData A
with_block_attribute key attr held = record held { attributes = insert_entry bytes_eq held.attributes key attr }

-- the block data with other attributes
abbrev pub with_block_attributes : {A : Type 0} → List (Text × AttrObj A) → BlockData A → BlockData A
with_block_attributes attributes held = record held { attributes = attributes }

-- the block data with another location
abbrev pub with_block_loc : {A : Type 0} → Location A → BlockData A → BlockData A
with_block_loc loc held = record held { loc = loc }

-- types of values, each wrapped in `Some`
abbrev pub known : {T : Type 0} → List T → List (Option T)
known types = map (λ t. Some t) types

-- the view of a region
abbrev pub region_of : Entry (Node Operation BasicBlock RegionContent) → RegionView
region_of e = record { parent = e.content.parent; blocks = e.content.children }

module _ {T A : Type 0} where
  -- a context with other paths; all else is unchanged
  abbrev pub with_paths : ContextView T A → List (List ℕ) → ContextView T A
  with_paths c paths = record c { paths = paths }

  -- a context with another graph; all else is unchanged
  abbrev pub with_graph : ContextView T A → GraphView (Option (OperationData A)) (BlockData A) (Option T) → ContextView T A
  with_graph c graph = record c { graph = graph }

  -- a context with the data of one operation changed; all else is unchanged
  abbrev pub with_changed_operation : ContextView T A → Ptr Operation → (OperationData A → OperationData A) → ContextView T A
  with_changed_operation c p change = record c { graph = record c.graph { operations = edited_at c.graph.operations p (with_data (option_map change)) } }

  -- a context with the data of one block changed; all else is unchanged
  abbrev pub with_changed_block : ContextView T A → Ptr BasicBlock → (BlockData A → BlockData A) → ContextView T A
  with_changed_block c p change = record c { graph = record c.graph { blocks = edited_at c.graph.blocks p (with_block change) } }

  -- the view of an operation with these results, regions and data
  abbrev pub view_of : List (Typed (Option T)) → List (Ptr Region) → OperationData A → OperationView T A
  view_of results regions held = record { id = held.id; result_types = map (λ r. r.of_type) results; attributes = held.attributes; loc = held.loc; regions = regions }

  -- the view of an operation of the graph; `None` for a placeholder, which has no data
  abbrev pub operation_of : Entry (Node BasicBlock Region (OperationContent (Option (OperationData A)) (Option T))) → Option (OperationView T A)
  operation_of e = option_map (view_of e.content.content.results e.content.children) e.content.content.data_of

  -- the view of a block with these arguments, operations and data
  abbrev pub block_view : List (Typed (Option T)) → List (Ptr Operation) → BlockData A → BlockView T A
  block_view arguments operations held = record { label = held.label; arg_types = map (λ a. a.of_type) arguments; attributes = held.attributes; loc = held.loc; operations = operations }

  -- the view of a block of the graph
  abbrev pub block_of : Entry (Node Region Operation (BlockContent (BlockData A) (Option T))) → BlockView T A
  block_of e = block_view e.content.content.arguments e.content.children e.content.content.data_of

  -- the regions of an operation; none if there is no operation
  abbrev pub regions_in : Option (OperationView T A) → List (Ptr Region)
  regions_in None = []
  regions_in (Some op) = op.regions

  -- the operation that a pointer refers to; `None` for a placeholder
  abbrev pub operation : ContextView T A → Ptr Operation → Option (OperationView T A)
  operation c p = option_and_then operation_of (get c.graph.operations p)

  -- the block that a pointer refers to
  abbrev pub block : ContextView T A → Ptr BasicBlock → Option (BlockView T A)
  block c p = option_map block_of (get c.graph.blocks p)

  -- the region that a pointer refers to
  abbrev pub region : ContextView T A → Ptr Region → Option RegionView
  region c p = option_map region_of (get c.graph.regions p)

  -- the object is in the context: an operation that is no placeholder, a block or a region
  abbrev pub Contains : ContextView T A → Object → Type 0
  Contains c (TheOperation p) = IsSome (operation c p)
  Contains c (TheBlock p) = IsSome (block c p)
  Contains c (TheRegion p) = IsSome (region c p)

  -- every object that was made before the mark is unchanged; each path keeps its key, and the dialects are the same
  pub record KeepsOlder (mark : ℕ) (old new : ContextView T A) : Type 0 where
    pub graph : objects.KeepsOlder mark old.graph new.graph
    pub paths : KeepsPaths old.paths new.paths
    pub dialects : new.dialects ≡ old.dialects

  -- every object that was made before the mark is unchanged, and all others are gone; the paths and dialects are the same
  pub record RollsBack (mark : ℕ) (old new : ContextView T A) : Type 0 where
    pub graph : back.RollsBack mark old.graph new.graph
    pub paths : new.paths ≡ old.paths
    pub dialects : new.dialects ≡ old.dialects

  -- an operation without a parent and regions was made under a new pointer, with results of these types and these operands and
  -- successors; all else is unchanged
  pub record MakesOperation (old new : ContextView T A) (p : Ptr Operation) (held : OperationData A) (types : List T) (operands : List Value)
      (successors : List (Ptr BasicBlock)) : Type 0 where
    pub graph : objects.MakesOperation old.graph new.graph p (Some held) (known types) operands successors
    pub paths : new.paths ≡ old.paths
    pub dialects : new.dialects ≡ old.dialects

  -- a block without a parent and operations was made under a new pointer, with arguments of these types; all else is unchanged
  pub record MakesBlock (old new : ContextView T A) (p : Ptr BasicBlock) (held : BlockData A) (types : List T) : Type 0 where
    pub graph : objects.MakesBlock old.graph new.graph p held (known types)
    pub paths : new.paths ≡ old.paths
    pub dialects : new.dialects ≡ old.dialects

  -- an empty region was made under a new pointer, as the last of an operation; all else is unchanged
  pub record AddsRegion (old new : ContextView T A) (op : Ptr Operation) (r : Ptr Region) : Type 0 where
    pub graph : parts.AddsRegion old.graph new.graph op r
    pub paths : new.paths ≡ old.paths
    pub dialects : new.dialects ≡ old.dialects

  -- the data of one operation changed, and nothing else
  pub record EditsOperation (old new : ContextView T A) (p : Ptr Operation) (change : OperationData A → OperationData A) : Type 0 where
    pub graph : edits.EditsOperation old.graph new.graph p (option_map change)
    pub paths : new.paths ≡ old.paths
    pub dialects : new.dialects ≡ old.dialects

  -- the data of one block changed, and nothing else
  pub record EditsBlock (old new : ContextView T A) (p : Ptr BasicBlock) (change : BlockData A → BlockData A) : Type 0 where
    pub graph : edits.EditsBlock old.graph new.graph p change
    pub paths : new.paths ≡ old.paths
    pub dialects : new.dialects ≡ old.dialects
