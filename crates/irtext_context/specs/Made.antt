-- Making a registered operation with its regions: whether it is registered, what is added to the context, and what is unchanged on an
-- error.
use Rattle.std.specs.Prelude.{◌≡◌, ◌≤◌, ℕ, zero, suc, List, [], Option, Some, None, IsSome, slice_get, Result, OnOk, OnErr, IfErr}
use Rattle.irtext_base.specs.Text.{Text}
use Rattle.irtext_context.specs.Dialects.{Table}
use Rattle.irtext_context.specs.DialectTable.{dialect_of, registered}
use Rattle.irtext_context.specs.Context.{ContextView, OperationView, BlockView, known, KeepsOlder, MakesOperation, AddsRegion}
use Rattle.irtext_graph.specs.Graph.{CountsOn, IsLive}
use Rattle.irtext_graph.specs.Parts.{IsDefinedValue}
use Rattle.irtext_graph.specs.Store.{get}
use Rattle.irtext_base.specs.Paths.{KeepsPaths}
use Rattle.irtext_graph.specs.declared.arena.Ptr.{Ptr}
use Rattle.irtext_graph.specs.declared.object.BasicBlock.{BasicBlock}
use Rattle.irtext_graph.specs.declared.object.Operation.{Operation}
use Rattle.irtext_graph.specs.declared.object.Region.{Region}
use Rattle.irtext_graph.specs.declared.object.Value.{Value}
use Rattle.irtext_graph.specs.declared.object.Object.TheVariants.{TheBlock}
use Rattle.irtext_base.specs.declared.base.identifier.OpId.{OpId}
use Rattle.irtext_context.specs.declared.base.block.BlockData.{BlockData}
use Rattle.irtext_context.specs.declared.base.operation.OperationData.{OperationData}
use Rattle.irtext_base.specs.declared.location.Location.{Unknown}
use Rattle.irtext_base.specs.declared.result.Cause.{Cause, UnregisteredDialect, UnregisteredOp}
use Rattle.irtext_base.specs.declared.result.Error.{Error}
use Rattle.irtext_base.specs.declared.result.ErrorKind.TheVariants.{InvalidArgument}

-- why an operation is not registered: its dialect is not registered, or the dialect has no such operation
abbrev pub IsUnregistered : {A : Type 0} → List (Text × Table) → OpId → Cause A → Type 0
IsUnregistered dialects id (UnregisteredDialect name) = (name ≡ id.dialect) × (dialect_of dialects id.dialect ≡ None)
IsUnregistered dialects id (UnregisteredOp i) = (i ≡ id) × IsSome (dialect_of dialects id.dialect) × (registered dialects id ≡ None)
IsUnregistered dialects id _ = ⊥

-- the data of an operation without attributes, whose location is unknown
abbrev pub bare : {A : Type 0} → OpId → OperationData A
bare id = record { id = id; attributes = []; loc = Unknown }

-- the data of a block with this label, if any, without attributes, whose location is unknown
abbrev pub bare_block : {A : Type 0} → Option Text → BlockData A
bare_block label = record { label = label; attributes = []; loc = Unknown }

module _ {T A : Type 0} where
  -- each of these values is defined in the graph
  abbrev pub AreDefinedValues : ContextView T A → List Value → Type 0
  AreDefinedValues c values = (i : ℕ) (v : Value) → slice_get values i ≡ Some v → IsDefinedValue c.graph v

  -- each of these blocks is live
  abbrev pub AreLiveBlocks : ContextView T A → List (Ptr BasicBlock) → Type 0
  AreLiveBlocks c blocks = (i : ℕ) (b : Ptr BasicBlock) → slice_get blocks i ≡ Some b → IsLive c.graph (TheBlock b)

  -- the view of a new operation with this data and results of these types, without regions
  abbrev pub made_view : OperationData A → List T → OperationView T A
  made_view held types = record { id = held.id; result_types = known types; attributes = held.attributes; loc = held.loc; regions = [] }

  -- the view of a new block with this data and arguments of these types, without operations
  abbrev pub made_block : BlockData A → List T → BlockView T A
  made_block held types = record { label = held.label; arg_types = known types; attributes = held.attributes; loc = held.loc; operations = [] }

  -- this many regions were appended to an operation, one after the other
  abbrev pub AddsRegions : ℕ → ContextView T A → ContextView T A → Ptr Operation → Type 0
  AddsRegions zero old new op = new ≡ old
  AddsRegions (suc n) old new op = (mid : ContextView T A) × (r : Ptr Region) × AddsRegions n old mid op × AddsRegion mid new op r

  -- an operation without attributes and a location was made under a new pointer, with results of these types and these operands and
  -- successors, and then n regions were appended to it
  pub record MakesWithRegions (n : ℕ) (old new : ContextView T A) (op : Ptr Operation) (id : OpId) (types : List T) (operands : List Value)
      (successors : List (Ptr BasicBlock)) : Type 0 where
    pub middle : ContextView T A
    pub makes : MakesOperation old middle op (bare id) types operands successors
    pub adds : AddsRegions n middle new op

  -- every live object is unchanged, no other is live, nothing that was given is given again, each path keeps its key, and the dialects
  -- are the same
  pub record SameObjects (old new : ContextView T A) : Type 0 where
    pub operations : (p : Ptr Operation) → get new.graph.operations p ≡ get old.graph.operations p
    pub blocks : (p : Ptr BasicBlock) → get new.graph.blocks p ≡ get old.graph.blocks p
    pub regions : (p : Ptr Region) → get new.graph.regions p ≡ get old.graph.regions p
    pub counts : CountsOn old.graph new.graph
    pub paths : KeepsPaths old.paths new.paths
    pub dialects : new.dialects ≡ old.dialects

  -- a call that makes an operation makes only one that is registered, and leaves what is older; its error has no location, and leaves all
  -- objects, and everything where the operation is not registered
  pub record MakesRegistered {R : Type 0} (id : OpId) (result : Result R (Error A)) (old new : ContextView T A) : Type 0 where
    pub registers : OnOk result (IsSome (registered old.dialects id))
    pub kept : (mark : ℕ) → mark ≤ old.graph.made → KeepsOlder mark old new
    pub objects : OnErr result (SameObjects old new)
    pub unregistered : registered old.dialects id ≡ None → new ≡ old
    pub kind : IfErr result (λ e. (e.kind ≡ InvalidArgument) × (e.loc ≡ Unknown))
