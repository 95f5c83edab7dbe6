-- The forest of pointers of an operation that was parsed, after its section: each item has what its tree and the entry of its mark give it.
use Rattle.std.proofs.Common.{ℕ, List, Option, refl, inl, inr}
use Rattle.irtext_base.specs.Paths.{Written}
use Rattle.irtext_base.specs.declared.location.Location.{Location}
use Rattle.irtext_context.specs.Context.{ContextView}
use Rattle.irtext_context.specs.declared.base.item.Item.{Item}
use Rattle.irtext_context.specs.declared.base.item.Item.TheVariants as item
use Rattle.irtext_graph.specs.declared.arena.Ptr.{Ptr}
use Rattle.irtext_graph.specs.declared.object.Operation.{Operation}
use Rattle.irtext_graph.specs.declared.object.BasicBlock.{BasicBlock}
use Rattle.irtext_graph.specs.declared.object.Region.{Region}
use Rattle.irtext_graph.specs.Chained.{Among}
use Rattle.irtext_graph.proofs.Preorders.{among_left, among_right}
use Rattle.irtext_grammar.specs.Grammar.Forest as forest
use Rattle.irtext_grammar.specs.Grammar.Forest.{Regions, no_regions, Blocks, no_blocks, Operations, no_operations, Root}
use Rattle.irtext_grammar.specs.Grammar.Section.{Entry}
use Rattle.irtext_grammar.specs.Grammar.Tree.{Mark, Op, Head, Brace, Tree}
use Rattle.irtext_grammar.specs.Tracks.{Made}
use Rattle.irtext_names.specs.Given.{OperationHas, BlockHas, RegionsHave, BlocksHave, OperationsHave, RootHas}
use Rattle.irtext_names.specs.Held.{PtrRegions, PtrBlocks, PtrOperations}
use Rattle.irtext_names.specs.Placed.{OperationAt, BlockAt, RegionsAre, BlocksAre, OperationsAre, RootIs}
use Rattle.irtext_parse_root.specs.Carried.{object_of}
use Rattle.irtext_parse_section.specs.Items.{CarriesOnly}
use Rattle.irtext_parse_root.proofs.Marks.{marked_regions, marked_blocks, marked_operations, marked_items}

module _ {T A : Type 0} (L : ℕ → Location A → Type 0) (c : ContextView T A) (items : Made) (marks : List (ℕ × Item)) (d : ContextView T A) (first : ℕ → Written A) (es : List (Entry ℕ A (Written A))) where
  -- What each item has: what its tree gives it, and what the entry of its mark does; it is the only item with this mark.
  pub record GivesEach : Type 0 where
    pub operations : (p : Ptr Operation) (o : Op ℕ T A) (rs : List (Ptr Region)) → OperationAt L c items p o rs → CarriesOnly marks (item.Operation p) o.mark → OperationHas d first es p o
    pub blocks : (b : Ptr BasicBlock) (h : Head ℕ T A) (ps : List (Ptr Operation)) → BlockAt L c items b h ps → CarriesOnly marks (item.Block b) h.mark → BlockHas d first es b h

  module _ (gives : GivesEach) (all : List (ℕ × Option (Mark ℕ))) (carries : (n : ℕ) (x : Item) (mark : Option (Mark ℕ)) → Among (n, object_of x) items → Among (n, mark) all → CarriesOnly marks x mark) where
    mutual
      regions_given : (ps : PtrRegions) (rs : Regions (Op ℕ T A) (Head ℕ T A) (Brace ℕ)) → RegionsAre L c items ps rs → ((n : ℕ) (mark : Option (Mark ℕ)) → Among (n, mark) (marked_regions rs) → Among (n, mark) all) → RegionsHave d first es ps rs
      regions_given no_regions no_regions h there = tt
      regions_given no_regions (forest.region brace hs rs) h there = absurd h
      regions_given (forest.region r bs ps) no_regions h there = absurd h
      regions_given (forest.region r bs ps) (forest.region brace hs rs) (at, k, h) there =
          (blocks_given bs hs k (λ n m a. there n m (among_left (n, m) (marked_blocks hs) (marked_regions rs) a)), regions_given ps rs h (λ n m a. there n m (among_right (n, m) (marked_blocks hs) (marked_regions rs) a)))

      blocks_given : (ps : PtrBlocks) (bs : Blocks (Op ℕ T A) (Head ℕ T A) (Brace ℕ)) → BlocksAre L c items ps bs → ((n : ℕ) (mark : Option (Mark ℕ)) → Among (n, mark) (marked_blocks bs) → Among (n, mark) all) → BlocksHave d first es ps bs
      blocks_given no_blocks no_blocks h there = tt
      blocks_given no_blocks (forest.block head os bs) h there = absurd h
      blocks_given (forest.block b qs ps) no_blocks h there = absurd h
      blocks_given (forest.block b qs ps) (forest.block head os bs) (at, k, h) there = (
        gives.blocks b head _ at (carries head.label.place (item.Block b) head.mark at.item (there head.label.place head.mark (inl refl))),
        operations_given qs os k (λ n m a. there n m (inr (among_left (n, m) (marked_operations os) (marked_blocks bs) a))),
        blocks_given ps bs h (λ n m a. there n m (inr (among_right (n, m) (marked_operations os) (marked_blocks bs) a))),
      )

      operations_given : (ps : PtrOperations) (os : Operations (Op ℕ T A) (Head ℕ T A) (Brace ℕ)) → OperationsAre L c items ps os → ((n : ℕ) (mark : Option (Mark ℕ)) → Among (n, mark) (marked_operations os) → Among (n, mark) all) → OperationsHave d first es ps os
      operations_given no_operations no_operations h there = tt
      operations_given no_operations (forest.operation o rs os) h there = absurd h
      operations_given (forest.operation q qs ps) no_operations h there = absurd h
      operations_given (forest.operation q qs ps) (forest.operation o rs os) (at, k, h) there = (
        gives.operations q o _ at (carries o.place (item.Operation q) o.mark at.item (there o.place o.mark (inl refl))),
        regions_given qs rs k (λ n m a. there n m (inr (among_left (n, m) (marked_regions rs) (marked_operations os) a))),
        operations_given ps os h (λ n m a. there n m (inr (among_right (n, m) (marked_regions rs) (marked_operations os) a))),
      )

  -- so has the whole
  pub root_given : GivesEach → (t : Tree ℕ T A) → ((n : ℕ) (x : Item) (mark : Option (Mark ℕ)) → Among (n, object_of x) items → Among (n, mark) (marked_items t) → CarriesOnly marks x mark)
      → (ps : Root (Ptr Operation) (Ptr BasicBlock) (Ptr Region)) → RootIs L c items ps t → RootHas d first es ps t
  root_given gives t carries ps is = (
    gives.operations ps.own t.own _ is.0 (carries t.own.place (item.Operation ps.own) t.own.mark is.0.item (inl refl)),
    regions_given gives (marked_items t) carries ps.regions t.regions is.1 (λ n m a. inr a),
  )
