-- Between functions: a forest of pointers that corresponds to a tree whose items also have what the entries of a section give them. An
-- item is an operation or a block that carries a mark.
use Rattle.std.specs.Prelude.{◌≡◌, ℕ, true, List, [], Some, is_some, unwrap_or, map, ⊤}
use Rattle.irtext_base.specs.Faults.{id_of}
use Rattle.irtext_base.specs.Paths.{Written}
use Rattle.irtext_context.specs.Context.{ContextView, OperationView, BlockView, known, operation, block}
use Rattle.irtext_graph.specs.declared.arena.Ptr.{Ptr}
use Rattle.irtext_graph.specs.declared.object.Operation.{Operation}
use Rattle.irtext_graph.specs.declared.object.BasicBlock.{BasicBlock}
use Rattle.irtext_graph.specs.declared.object.Region.{Region}
use Rattle.irtext_grammar.specs.Contexts.Held.{location_over, entries_of}
use Rattle.irtext_grammar.specs.Grammar.Forest as forest
use Rattle.irtext_grammar.specs.Grammar.Forest.{Regions, no_regions, Blocks, no_blocks, Operations, no_operations, Root}
use Rattle.irtext_grammar.specs.Grammar.Section.{Entry}
use Rattle.irtext_grammar.specs.Grammar.Tree.{Op, Head, Brace, Tree}
use Rattle.irtext_grammar.specs.Graphs.Build.{content, located, labelled, but_label, with_content}
use Rattle.irtext_grammar.specs.Unchanged.{own_of, head_entries, HasUses}
use Rattle.irtext_names.specs.Held.{PtrRegions, PtrBlocks, PtrOperations}

module _ {T A : Type 0} (c : ContextView T A) (first : ℕ → Written A) (es : List (Entry ℕ A (Written A))) where
  -- the operation under the pointer has the data of the tree's, and what the entry of its mark gives it
  pub record OperationHas (p : Ptr Operation) (o : Op ℕ T A) : Type 0 where
    pub view : OperationView T A
    pub is : operation c p ≡ Some view
    pub uses : HasUses c p (own_of o)
    pub id : id_of view.id ≡ o.id
    pub types : view.result_types ≡ known (own_of o).types
    pub entries : entries_of view.attributes ≡ with_content (own_of o).entries (content es o.mark)
    pub location : location_over c.paths view.loc ≡ located (first o.place) (content es o.mark)

  -- the block under the pointer has the data of the tree's, and what the entry of its mark gives it
  pub record BlockHas (b : Ptr BasicBlock) (h : Head ℕ T A) : Type 0 where
    pub view : BlockView T A
    pub is : block c b ≡ Some view
    pub label : unwrap_or view.label [] ≡ labelled h.label.text (content es h.mark)
    pub has_label : is_some view.label ≡ true
    pub types : view.arg_types ≡ known (map (λ a. a.1) h.arguments)
    pub entries : entries_of view.attributes ≡ with_content (head_entries h) (but_label (content es h.mark))
    pub location : location_over c.paths view.loc ≡ located (first h.label.place) (content es h.mark)

  abbrev mutual
    -- the forest of pointers corresponds to these regions, with what the entries give
    pub RegionsHave : PtrRegions → Regions (Op ℕ T A) (Head ℕ T A) (Brace ℕ) → Type 0
    RegionsHave no_regions no_regions = ⊤
    RegionsHave (forest.region r bs rs) (forest.region brace hs more) = BlocksHave bs hs × RegionsHave rs more
    RegionsHave _ _ = ⊥

    -- the same of these blocks
    pub BlocksHave : PtrBlocks → Blocks (Op ℕ T A) (Head ℕ T A) (Brace ℕ) → Type 0
    BlocksHave no_blocks no_blocks = ⊤
    BlocksHave (forest.block b ps bs) (forest.block h os more) = BlockHas b h × OperationsHave ps os × BlocksHave bs more
    BlocksHave _ _ = ⊥

    -- the same of these operations
    pub OperationsHave : PtrOperations → Operations (Op ℕ T A) (Head ℕ T A) (Brace ℕ) → Type 0
    OperationsHave no_operations no_operations = ⊤
    OperationsHave (forest.operation p rs ps) (forest.operation o more os) = OperationHas p o × RegionsHave rs more × OperationsHave ps os
    OperationsHave _ _ = ⊥

  -- the same of this tree
  abbrev pub RootHas : Root (Ptr Operation) (Ptr BasicBlock) (Ptr Region) → Tree ℕ T A → Type 0
  RootHas ps t = OperationHas ps.own t.own × RegionsHave ps.regions t.regions
