-- The operations of a tree that builds a root have the ids of the root's operations.
use Rattle.std.proofs.Common.{ℕ, suc, Bool, List, [], ◌∷◌, subst}
use Rattle.std.specs.Prelude.{⊤}
use Rattle.irtext_base.specs.Format.{Id}
use Rattle.irtext_base.specs.Text.{Text}
use Rattle.irtext_grammar.specs.Grammar.Forest.{Regions, no_regions, region, Blocks, no_blocks, block, Operations, no_operations, operation, AllRegions, AllBlocks, AllOperations, MatchRegions, MatchBlocks, MatchOperations}
use Rattle.irtext_grammar.specs.Grammar.Section.{Entry}
use Rattle.irtext_grammar.specs.Grammar.Tree.{Op, Head, Brace, Tree}
use Rattle.irtext_grammar.specs.Graphs.Build.{built_regions, built_blocks, built_operations, build}
use Rattle.irtext_grammar.specs.Graphs.Graph.{Graph, GraphOp, GraphBlock, Printing}
use Rattle.irtext_grammar.specs.Graphs.Same.{Locations, SameOp, SameBlock, UpToFillings, resolved_regions, resolved_blocks, resolved_operations, resolved_root}
use Rattle.irtext_grammar.specs.Names.Scopes.{Fact}
use Rattle.irtext_grammar.specs.Graphs.Closed.{Thing}
use Rattle.irtext_grammar.specs.Names.Script.{Path}

module _ {T A X : Type 0} (P : Id → Type 0) (K : Locations X) (C : Printing T A) (isolated : Id → Bool) (first : ℕ → X) (all : List (Entry ℕ A X)) where
  mutual
    regions_ids : (v : List (Fact Thing)) (w : List (Fact Text)) (p q : Path) (j k : ℕ) (b c : Bool) (rs : Regions (GraphOp T A) (GraphBlock T A) ⊤) (ts : Regions (Op ℕ T A) (Head ℕ T A) (Brace ℕ))
        → MatchRegions (SameOp {T = T} {A = A} K) (SameBlock {T = T} {A = A} K) (λ r s. ⊤) (resolved_regions C isolated v p j b rs) (built_regions isolated first all w q k c ts) → AllRegions (λ (o : GraphOp T A). P o.id) (λ h. ⊤) (λ r. ⊤) rs → AllRegions (λ (o : Op ℕ T A). P o.id) (λ h. ⊤) (λ r. ⊤) ts
    regions_ids v w p q j k b c no_regions no_regions m a = tt
    regions_ids v w p q j k b c no_regions (region brace bs ts) m a = absurd m
    regions_ids v w p q j k b c (region r bs rs) no_regions m a = absurd m
    regions_ids v w p q j k b c (region r bs rs) (region brace cs ts) (m, n, o) (x, y, z) = (tt, blocks_ids _ _ _ _ _ _ 0 0 bs cs n y, regions_ids v w p q (suc j) (suc k) b c rs ts o z)

    blocks_ids : (v l : List (Fact Thing)) (w u : List (Fact Text)) (p q : Path) (j k : ℕ) (bs : Blocks (GraphOp T A) (GraphBlock T A) ⊤) (ts : Blocks (Op ℕ T A) (Head ℕ T A) (Brace ℕ))
        → MatchBlocks (SameOp {T = T} {A = A} K) (SameBlock {T = T} {A = A} K) (λ r s. ⊤) (resolved_blocks C isolated v l p j bs) (built_blocks isolated first all w u q k ts) → AllBlocks (λ (o : GraphOp T A). P o.id) (λ h. ⊤) (λ r. ⊤) bs → AllBlocks (λ (o : Op ℕ T A). P o.id) (λ h. ⊤) (λ r. ⊤) ts
    blocks_ids v l w u p q j k no_blocks no_blocks m a = tt
    blocks_ids v l w u p q j k no_blocks (block h os ts) m a = absurd m
    blocks_ids v l w u p q j k (block h os bs) no_blocks m a = absurd m
    blocks_ids v l w u p q j k (block h os bs) (block g ns ts) (m, n, o) (x, y, z) = (tt, operations_ids v l w u (j ∷ p) (k ∷ q) 0 0 os ns n y, blocks_ids v l w u p q (suc j) (suc k) bs ts o z)

    operations_ids : (v l : List (Fact Thing)) (w u : List (Fact Text)) (p q : Path) (j k : ℕ) (os : Operations (GraphOp T A) (GraphBlock T A) ⊤) (ts : Operations (Op ℕ T A) (Head ℕ T A) (Brace ℕ))
        → MatchOperations (SameOp {T = T} {A = A} K) (SameBlock {T = T} {A = A} K) (λ r s. ⊤) (resolved_operations C isolated v l p j os) (built_operations isolated first all w u q k ts) → AllOperations (λ (o : GraphOp T A). P o.id) (λ h. ⊤) (λ r. ⊤) os → AllOperations (λ (o : Op ℕ T A). P o.id) (λ h. ⊤) (λ r. ⊤) ts
    operations_ids v l w u p q j k no_operations no_operations m a = tt
    operations_ids v l w u p q j k no_operations (operation o rs ts) m a = absurd m
    operations_ids v l w u p q j k (operation o rs os) no_operations m a = absurd m
    operations_ids v l w u p q j k (operation o rs os) (operation t ss ts) (m, n, r) (x, y, z) =
        (subst P m.shape.id x, regions_ids v w (j ∷ p) (k ∷ q) 0 0 (isolated o.id) (isolated t.id) rs ss n y, operations_ids v l w u p q (suc j) (suc k) os ts r z)

  -- what holds of the ids of the root's operations holds of those of the tree
  pub root_ids : (g : Graph T A) (t : Tree ℕ T A) → UpToFillings K (resolved_root C isolated g) (build isolated first all t) → P g.own.id × AllRegions (λ (o : GraphOp T A). P o.id) (λ h. ⊤) (λ r. ⊤) g.regions → P t.own.id × AllRegions (λ (o : Op ℕ T A). P o.id) (λ h. ⊤) (λ r. ⊤) t.regions
  root_ids g t (m, n) (x, y) = (subst P m.shape.id x, regions_ids [] [] [] [] 0 0 (isolated g.own.id) (isolated t.own.id) g.regions t.regions n y)
