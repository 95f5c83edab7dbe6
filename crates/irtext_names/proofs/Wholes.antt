-- All that is nested in an operation is present, if the operation has what a tree gives it.
use Rattle.std.proofs.Common.{ℕ, List}
use Rattle.std.specs.Prelude.{⊤}
use Rattle.irtext_base.specs.Paths.{Written}
use Rattle.irtext_context.specs.Context.{ContextView}
use Rattle.irtext_graph.specs.declared.arena.Ptr.{Ptr}
use Rattle.irtext_graph.specs.declared.object.Operation.{Operation}
use Rattle.irtext_graph.specs.declared.object.BasicBlock.{BasicBlock}
use Rattle.irtext_grammar.specs.Contexts.Nested.{pointers}
use Rattle.irtext_grammar.specs.Grammar.Forest as forest
use Rattle.irtext_grammar.specs.Grammar.Forest.{Regions, no_regions, Blocks, no_blocks, Operations, no_operations, AllRegions, AllBlocks, AllOperations}
use Rattle.irtext_grammar.specs.Grammar.Section.{Entry}
use Rattle.irtext_grammar.specs.Grammar.Tree.{Op, Head, Brace, Tree}
use Rattle.irtext_names.specs.Given.{OperationHas, BlockHas, RegionsHave, BlocksHave, OperationsHave, RootHas}
use Rattle.irtext_names.specs.Held.{PtrRegions, PtrBlocks, PtrOperations, OperationWhole, BlockWhole, IsWhole}

module _ {T A : Type 0} (c : ContextView T A) (first : ℕ → Written A) (es : List (Entry ℕ A (Written A))) where
  operation_whole : (p : Ptr Operation) (o : Op ℕ T A) → OperationHas c first es p o → OperationWhole c p
  operation_whole p o h = record { view = h.view; is = h.is; types = _; known_as = h.types }

  block_whole : (b : Ptr BasicBlock) (head : Head ℕ T A) → BlockHas c first es b head → BlockWhole c b
  block_whole b head h = record { view = h.view; is = h.is; labelled = h.has_label; types = _; known_as = h.types }

  mutual
    pub regions_whole : (ps : PtrRegions) (rs : Regions (Op ℕ T A) (Head ℕ T A) (Brace ℕ)) → RegionsHave c first es ps rs → AllRegions (OperationWhole c) (BlockWhole c) (λ r. ⊤) ps
    regions_whole no_regions no_regions h = tt
    regions_whole no_regions (forest.region brace hs rs) h = absurd h
    regions_whole (forest.region r bs ps) no_regions h = absurd h
    regions_whole (forest.region r bs ps) (forest.region brace hs rs) (k, h) = (tt, blocks_whole bs hs k, regions_whole ps rs h)

    blocks_whole : (ps : PtrBlocks) (bs : Blocks (Op ℕ T A) (Head ℕ T A) (Brace ℕ)) → BlocksHave c first es ps bs → AllBlocks (OperationWhole c) (BlockWhole c) (λ r. ⊤) ps
    blocks_whole no_blocks no_blocks h = tt
    blocks_whole no_blocks (forest.block head os bs) h = absurd h
    blocks_whole (forest.block b qs ps) no_blocks h = absurd h
    blocks_whole (forest.block b qs ps) (forest.block head os bs) (at, k, h) = (block_whole b head at, operations_whole qs os k, blocks_whole ps bs h)

    operations_whole : (ps : PtrOperations) (os : Operations (Op ℕ T A) (Head ℕ T A) (Brace ℕ)) → OperationsHave c first es ps os → AllOperations (OperationWhole c) (BlockWhole c) (λ r. ⊤) ps
    operations_whole no_operations no_operations h = tt
    operations_whole no_operations (forest.operation o rs os) h = absurd h
    operations_whole (forest.operation q qs ps) no_operations h = absurd h
    operations_whole (forest.operation q qs ps) (forest.operation o rs os) (at, k, h) = (operation_whole q o at, regions_whole qs rs k, operations_whole ps os h)

  -- all under the pointer is there
  pub root_whole : (p : Ptr Operation) (t : Tree ℕ T A) → RootHas c first es (pointers c.graph p) t → IsWhole c p
  root_whole p t h = (operation_whole p t.own h.0, regions_whole (pointers c.graph p).regions t.regions h.1)
