-- Between functions: a forest of pointers that corresponds to a tree: each operation and each block has the data of the tree's, is
-- recorded as the item of its place, and has the children that the tree has there. An item is here an operation or a block with its place
-- in the text.
use Rattle.std.specs.Prelude.{◌≡◌, ℕ, List, [], ◌∷◌, Some, ⊤}
use Rattle.irtext_base.specs.declared.location.Location.{Location}
use Rattle.irtext_context.specs.Context.{ContextView, OperationView, BlockView, RegionView, operation, block, region}
use Rattle.irtext_graph.specs.declared.arena.Ptr.{Ptr}
use Rattle.irtext_graph.specs.declared.object.Operation.{Operation}
use Rattle.irtext_graph.specs.declared.object.BasicBlock.{BasicBlock}
use Rattle.irtext_graph.specs.declared.object.Region.{Region}
use Rattle.irtext_graph.specs.declared.object.Object.TheVariants.{TheOperation, TheBlock}
use Rattle.irtext_graph.specs.Chained.{Among}
use Rattle.irtext_grammar.specs.Grammar.Forest as forest
use Rattle.irtext_grammar.specs.Grammar.Forest.{Regions, no_regions, Blocks, no_blocks, Operations, no_operations, Root}
use Rattle.irtext_grammar.specs.Grammar.Tree.{Op, Head, Brace, Tree}
use Rattle.irtext_grammar.specs.Unchanged.{own_of, HasOwn, HasHead, HasUses}
use Rattle.irtext_grammar.specs.Tracks.{Made}
use Rattle.irtext_names.specs.Held.{PtrRegions, PtrBlocks, PtrOperations}

-- the pointers of a list of regions, of blocks or of operations, without what is nested in them
abbrev pub region_ptrs : PtrRegions → List (Ptr Region)
region_ptrs no_regions = []
region_ptrs (forest.region r bs rs) = r ∷ region_ptrs rs

abbrev pub block_ptrs : PtrBlocks → List (Ptr BasicBlock)
block_ptrs no_blocks = []
block_ptrs (forest.block b os bs) = b ∷ block_ptrs bs

abbrev pub operation_ptrs : PtrOperations → List (Ptr Operation)
operation_ptrs no_operations = []
operation_ptrs (forest.operation p rs os) = p ∷ operation_ptrs os

-- the regions, the blocks and the operations of a tree
abbrev pub TreeRegions : Type 0 → Type 0 → Type 0
TreeRegions T A = Regions (Op ℕ T A) (Head ℕ T A) (Brace ℕ)

abbrev pub TreeBlocks : Type 0 → Type 0 → Type 0
TreeBlocks T A = Blocks (Op ℕ T A) (Head ℕ T A) (Brace ℕ)

abbrev pub TreeOperations : Type 0 → Type 0 → Type 0
TreeOperations T A = Operations (Op ℕ T A) (Head ℕ T A) (Brace ℕ)

module _ {T A : Type 0} (IsLocation : ℕ → Location A → Type 0) (c : ContextView T A) (items : Made) where
  -- the operation under the pointer has this data, is the item of its place, and has these regions
  pub record OperationAt (p : Ptr Operation) (o : Op ℕ T A) (rs : List (Ptr Region)) : Type 0 where
    pub view : OperationView T A
    pub is : operation c p ≡ Some view
    pub has : HasOwn IsLocation view (own_of o)
    pub uses : HasUses c p (own_of o)
    pub item : Among (o.place, TheOperation p) items
    pub inner : view.regions ≡ rs

  -- the block under the pointer has this header, is the item of its place, and has these operations
  pub record BlockAt (b : Ptr BasicBlock) (h : Head ℕ T A) (ps : List (Ptr Operation)) : Type 0 where
    pub view : BlockView T A
    pub is : block c b ≡ Some view
    pub has : HasHead IsLocation view h
    pub item : Among (h.label.place, TheBlock b) items
    pub inner : view.operations ≡ ps

  -- the region under the pointer has these blocks
  pub record RegionAt (r : Ptr Region) (bs : List (Ptr BasicBlock)) : Type 0 where
    pub view : RegionView
    pub is : region c r ≡ Some view
    pub inner : view.blocks ≡ bs

  abbrev mutual
    -- the forest of pointers corresponds to these regions
    pub RegionsAre : PtrRegions → TreeRegions T A → Type 0
    RegionsAre no_regions no_regions = ⊤
    RegionsAre (forest.region r bs rs) (forest.region brace hs more) = RegionAt r (block_ptrs bs) × BlocksAre bs hs × RegionsAre rs more
    RegionsAre _ _ = ⊥

    -- the same of these blocks
    pub BlocksAre : PtrBlocks → TreeBlocks T A → Type 0
    BlocksAre no_blocks no_blocks = ⊤
    BlocksAre (forest.block b ps bs) (forest.block h os more) = BlockAt b h (operation_ptrs ps) × OperationsAre ps os × BlocksAre bs more
    BlocksAre _ _ = ⊥

    -- the same of these operations
    pub OperationsAre : PtrOperations → TreeOperations T A → Type 0
    OperationsAre no_operations no_operations = ⊤
    OperationsAre (forest.operation p rs ps) (forest.operation o more os) = OperationAt p o (region_ptrs rs) × RegionsAre rs more × OperationsAre ps os
    OperationsAre _ _ = ⊥

  -- the same of this tree
  abbrev pub RootIs : Root (Ptr Operation) (Ptr BasicBlock) (Ptr Region) → Tree ℕ T A → Type 0
  RootIs ps t = OperationAt ps.own t.own (region_ptrs ps.regions) × RegionsAre ps.regions t.regions
