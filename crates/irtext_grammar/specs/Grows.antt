-- Between functions: what is added to a context as an operation, block or region of nested text is parsed, seen from what is open.
use Rattle.std.specs.Prelude.{◌≡◌, ℕ, [], ◌∷◌, ◌++◌, Some, IsSome}
use Rattle.std.specs.Option.{option_map}
use Rattle.irtext_base.specs.declared.location.Location.{Location}
use Rattle.irtext_context.specs.Context.{ContextView, OperationView, BlockView, RegionView, operation, block, region}
use Rattle.irtext_graph.specs.declared.arena.Ptr.{Ptr}
use Rattle.irtext_graph.specs.declared.object.Operation.{Operation}
use Rattle.irtext_graph.specs.declared.object.BasicBlock.{BasicBlock}
use Rattle.irtext_graph.specs.declared.object.Region.{Region}
use Rattle.irtext_graph.specs.declared.object.Object.TheVariants.{TheOperation, TheBlock, TheRegion}
use Rattle.irtext_graph.specs.Graph.{parent}
use Rattle.irtext_grammar.specs.Grammar.Tree.{Head}
use Rattle.irtext_grammar.specs.Unchanged.{OwnSoFar, HasOwn, HasUses, HasHead, IsThere, UsesAsMany}

-- an operation with one more region, the last
abbrev pub with_last_region : {T A : Type 0} → Ptr Region → OperationView T A → OperationView T A
with_last_region r view = record view { regions = view.regions ++ r ∷ [] }

-- a region with one more block, the last
abbrev pub with_last_block : Ptr BasicBlock → RegionView → RegionView
with_last_block b view = record view { blocks = view.blocks ++ b ∷ [] }

-- a block with one more operation, the last
abbrev pub with_last_operation : {T A : Type 0} → Ptr Operation → BlockView T A → BlockView T A
with_last_operation p view = record view { operations = view.operations ++ p ∷ [] }

module _ {T A : Type 0} (old new : ContextView T A) where
  -- a region without blocks was created under a new pointer
  pub record RegionCame (r : Ptr Region) : Type 0 where
    pub is_new : IsThere old (TheRegion r) → ⊥
    pub view : RegionView
    pub is : region new r ≡ Some view
    pub blocks : view.blocks ≡ []

  -- an operation has one more region, the last, and is otherwise unchanged
  pub record OperationGains (p : Ptr Operation) (r : Ptr Region) : Type 0 where
    pub gains : operation new p ≡ option_map (with_last_region r) (operation old p)
    pub uses : UsesAsMany old.graph new.graph p

  -- a region has one more block, the last, and is otherwise unchanged
  pub record RegionGains (r : Ptr Region) (b : Ptr BasicBlock) : Type 0 where
    pub gains : region new r ≡ option_map (with_last_block b) (region old r)

  -- a block has one more operation, the last, and is otherwise unchanged
  pub record BlockGains (b : Ptr BasicBlock) (p : Ptr Operation) : Type 0 where
    pub gains : block new b ≡ option_map (with_last_operation p) (block old b)
    pub stays : parent new.graph (TheBlock b) ≡ parent old.graph (TheBlock b)

  module _ (IsLocation : ℕ → Location A → Type 0) where
    -- an operation with this data, without regions, was created under a new pointer
    pub record OperationCame (p : Ptr Operation) (own : OwnSoFar T A) : Type 0 where
      pub is_new : IsThere old (TheOperation p) → ⊥
      pub view : OperationView T A
      pub is : operation new p ≡ Some view
      pub has : HasOwn IsLocation view own
      pub uses : HasUses new p own
      pub regions : view.regions ≡ []

    -- a block with this header, without operations, was created under a new pointer, and has a parent
    pub record BlockCame (b : Ptr BasicBlock) (h : Head ℕ T A) : Type 0 where
      pub is_new : IsThere old (TheBlock b) → ⊥
      pub view : BlockView T A
      pub is : block new b ≡ Some view
      pub has : HasHead IsLocation view h
      pub operations : view.operations ≡ []
      pub inside : IsSome (parent new.graph (TheBlock b))

    -- an operation has this data now, and the regions that it had
    pub record OwnBecame (p : Ptr Operation) (own : OwnSoFar T A) : Type 0 where
      pub view : OperationView T A
      pub is : operation new p ≡ Some view
      pub has : HasOwn IsLocation view own
      pub uses : HasUses new p own
      pub regions : (was : OperationView T A) → operation old p ≡ Some was → view.regions ≡ was.regions
