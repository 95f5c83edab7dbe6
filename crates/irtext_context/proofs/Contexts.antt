-- What the calls of a context do to what is seen of it, and that each keeps what is older.
use Rattle.std.proofs.Common.{◌≡◌, ◌++◌, ◌+◌, ◌∷◌, ◌∙◌, ℕ, refl, ap, Option, None, Some, [], slice_get, map, List}
use Rattle.std.specs.Option.{option_map}
use Rattle.std.specs.Prelude.{option_and_then}
use Rattle.irtext_base.specs.Paths.{KeepsPaths}
use Rattle.irtext_graph.specs.Content.{Node, Typed, OperationContent, BlockContent}
use Rattle.irtext_graph.specs.Regions.{with_child}
use Rattle.irtext_graph.specs.Data.{with_data, with_block}
use Rattle.irtext_graph.specs.Graph.{numbered}
use Rattle.irtext_graph.specs.Store.{object_of, before, get}
use Rattle.irtext_graph.specs.declared.arena.Entry.{Entry}
use Rattle.irtext_graph.specs.declared.arena.Ptr.{Ptr}
use Rattle.irtext_graph.specs.declared.object.BasicBlock.{BasicBlock}
use Rattle.irtext_graph.specs.declared.object.Operation.{Operation}
use Rattle.irtext_graph.specs.declared.object.Region.{Region}
use Rattle.irtext_graph.specs.declared.object.Value.{Value}
use Rattle.irtext_graph.proofs.Made.{same_keeps}
use Rattle.irtext_graph.proofs.Data.{edited-keeps, edited_block-keeps}
use Rattle.irtext_context.specs.Context.{ContextView, OperationView, BlockView, operation, operation_of, block, block_of, block_view, known, region, region_of, view_of, KeepsOlder, MakesOperation, MakesBlock, AddsRegion, EditsOperation, EditsBlock}
use Rattle.irtext_context.specs.Made.{made_view, made_block}
use Rattle.irtext_context.specs.declared.base.block.BlockData.{BlockData}
use Rattle.irtext_context.specs.declared.base.operation.OperationData.{OperationData}

-- the same paths are kept
pub same-paths : {old new : List (List ℕ)} → new ≡ old → KeepsPaths old new
same-paths e = λ i path h. ap (λ paths. slice_get paths i) e ∙ h

-- an operation with one more region, its last
abbrev pub with_region : {T A : Type 0} → Ptr Region → OperationView T A → OperationView T A
with_region r op = record op { regions = op.regions ++ r ∷ [] }

-- the entry of an operation
abbrev pub OperationEntry : Type 0 → Type 0 → Type 0
OperationEntry T A = Entry (Node BasicBlock Region (OperationContent (Option (OperationData A)) (Option T)))

-- the entry of a block
abbrev pub BlockEntry : Type 0 → Type 0 → Type 0
BlockEntry T A = Entry (Node Region Operation (BlockContent (BlockData A) (Option T)))

-- the types of values that are numbered
types_numbered : {T : Type 0} (n : ℕ) (types : List T) → map (λ v. v.of_type) (numbered n types) ≡ types
types_numbered n [] = refl
types_numbered n (t ∷ ts) = ap (λ l. t ∷ l) (types_numbered (n + 1) ts)

module _ {T A : Type 0} where
  module _ (mark : ℕ) (old new : ContextView T A) where
    pub same-keeps : new ≡ old → KeepsOlder mark old new
    same-keeps e = record {
      graph = same_keeps mark old.graph new.graph (ap (λ (c : ContextView T A). c.graph) e);
      paths = same-paths (ap (λ (c : ContextView T A). c.paths) e);
      dialects = ap (λ (c : ContextView T A). c.dialects) e;
    }

    pub edits-keeps : (p : Ptr Operation) (change : OperationData A → OperationData A) → before mark old.graph.operations p ≡ None → EditsOperation old new p change → KeepsOlder mark old new
    edits-keeps p change none e = record {
      graph = edited-keeps mark old.graph new.graph p (option_map change) none e.graph;
      paths = same-paths e.paths;
      dialects = e.dialects;
    }

    -- the same for a block
    pub edits_block-keeps : (p : Ptr BasicBlock) (change : BlockData A → BlockData A) → before mark old.graph.blocks p ≡ None → EditsBlock old new p change → KeepsOlder mark old new
    edits_block-keeps p change none e = record {
      graph = edited_block-keeps mark old.graph new.graph p change none e.graph;
      paths = same-paths e.paths;
      dialects = e.dialects;
    }

  -- what is seen of an operation that changed, if its change is seen
  changed_seen : (change : OperationEntry T A → OperationEntry T A) (shown : OperationView T A → OperationView T A) → ((x : OperationEntry T A) → operation_of (change x) ≡ option_map shown (operation_of x))
      → (s : Option (OperationEntry T A)) → option_and_then operation_of (option_map change s) ≡ option_map shown (option_and_then operation_of s)
  changed_seen change shown same None = refl
  changed_seen change shown same (Some x) = same x

  module _ (old new : ContextView T A) where
    -- an operation that was made is seen
    pub made_seen : (p : Ptr Operation) (held : OperationData A) (types : List T) {operands : List Value} {successors : List (Ptr BasicBlock)}
        → MakesOperation old new p held types operands successors → operation new p ≡ Some (made_view held types)
    made_seen p held types m = ap (option_and_then operation_of) m.graph.operations.updates.changed
        ∙ ap (λ ts. Some (record (made_view held types) { result_types = ts })) (types_numbered old.graph.values (known types))

    -- an operation whose data changed is seen with the change
    pub edited_seen : (p : Ptr Operation) (change : OperationData A → OperationData A) (shown : OperationView T A → OperationView T A)
        → ((results : List (Typed (Option T))) (regions : List (Ptr Region)) (held : OperationData A) → view_of results regions (change held) ≡ shown (view_of results regions held))
        → EditsOperation old new p change → operation new p ≡ option_map shown (operation old p)
    edited_seen p change shown same e = ap (option_and_then operation_of) e.graph.operations.updates.changed
        ∙ changed_seen (object_of (with_data (option_map change))) shown (λ x. inner x.content.content.results x.content.children x.content.content.data_of) (get old.graph.operations p)
      where
        inner : (results : List (Typed (Option T))) (regions : List (Ptr Region)) (o : Option (OperationData A)) → option_map (view_of results regions) (option_map change o) ≡ option_map shown (option_map (view_of results regions) o)
        inner results regions None = refl
        inner results regions (Some held) = ap (λ v. Some v) (same results regions held)

    -- a block that was made is seen
    pub made_block_seen : (p : Ptr BasicBlock) (held : BlockData A) (types : List T) → MakesBlock old new p held types → block new p ≡ Some (made_block held types)
    made_block_seen p held types m = ap (option_map block_of) m.graph.blocks.updates.changed
        ∙ ap (λ ts. Some (record (made_block held types) { arg_types = ts })) (types_numbered old.graph.values (known types))

    -- a block whose data changed is seen with the change
    pub edited_block_seen : (p : Ptr BasicBlock) (change : BlockData A → BlockData A) (shown : BlockView T A → BlockView T A)
        → ((arguments : List (Typed (Option T))) (operations : List (Ptr Operation)) (held : BlockData A) → block_view arguments operations (change held) ≡ shown (block_view arguments operations held))
        → EditsBlock old new p change → block new p ≡ option_map shown (block old p)
    edited_block_seen p change shown same e = ap (option_map block_of) e.graph.blocks.updates.changed ∙ go (get old.graph.blocks p)
      where
        go : (s : Option (BlockEntry T A)) → option_map block_of (option_map (object_of (with_block change)) s) ≡ option_map shown (option_map block_of s)
        go None = refl
        go (Some x) = ap (λ v. Some v) (same x.content.content.arguments x.content.children x.content.content.data_of)

    -- an operation that gained a region has the view with this region
    pub grown_seen : (op : Ptr Operation) (r : Ptr Region) → AddsRegion old new op r → operation new op ≡ option_map (with_region r) (operation old op)
    grown_seen op r a = ap (option_and_then operation_of) a.graph.operations.updates.changed
        ∙ changed_seen (object_of (with_child r)) (with_region r) (λ x. inner x.content.content.results x.content.children x.content.content.data_of) (get old.graph.operations op)
      where
        inner : (results : List (Typed (Option T))) (regions : List (Ptr Region)) (o : Option (OperationData A)) → option_map (view_of results (regions ++ r ∷ [])) o ≡ option_map (with_region r) (option_map (view_of results regions) o)
        inner results regions None = refl
        inner results regions (Some held) = refl

    -- the region that was created has a view
    pub region_seen : (op : Ptr Operation) (r : Ptr Region) → AddsRegion old new op r → region new r ≡ Some (record { parent = Some op; blocks = [] })
    region_seen op r a = ap (option_map region_of) a.graph.regions.updates.changed
