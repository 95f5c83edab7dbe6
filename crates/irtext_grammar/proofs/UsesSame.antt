-- Roots that are equal up to fillings have the same uses inside.
use Rattle.std.proofs.Common.{◌≡◌, ◌++◌, ◌∷◌, [], ℕ, suc, refl, ap₂, List, Option}
use Rattle.std.specs.Prelude.{⊤}
use Rattle.irtext_grammar.specs.Grammar.Forest.{Regions, no_regions, region, Blocks, no_blocks, block, Operations, no_operations, operation, Root, MatchRegions, MatchBlocks, MatchOperations, MatchRoots}
use Rattle.irtext_grammar.specs.Graphs.Build.{Built, BuiltOp, BuiltBlock}
use Rattle.irtext_grammar.specs.Graphs.Links.{links_from, op_links, region_links, block_links, operation_links}
use Rattle.irtext_grammar.specs.Graphs.Same.{ResolvedOp, ResolvedBlock, SameShape}
use Rattle.irtext_grammar.specs.Names.Script.{Path, Place, operand, successor}
use Rattle.irtext_grammar.specs.Uses.{op_uses, region_uses, block_uses, operation_uses, SameUses}

module _ {T A X : Type 0} (OfO : ResolvedOp T A → BuiltOp T A X → Type 0) (OfB : ResolvedBlock T A → BuiltBlock T A X → Type 0) (shape : (a : ResolvedOp T A) (b : BuiltOp T A X) → OfO a b → SameShape a b) where
  own_uses : (p : Path) (a : ResolvedOp T A) (b : BuiltOp T A X) → OfO a b → op_uses p a ≡ op_links p b
  own_uses p a b h = ap₂ (λ (xs ys : List (Option Place)). links_from (operand p) 0 xs ++ links_from (successor p) 0 ys) (shape a b h).operands (shape a b h).successors

  mutual
    regions_same : (p : Path) (j : ℕ) (rs : Regions (ResolvedOp T A) (ResolvedBlock T A) ⊤) (qs : Regions (BuiltOp T A X) (BuiltBlock T A X) ⊤) → MatchRegions OfO OfB (λ r s. ⊤) rs qs → region_uses p j rs ≡ region_links p j qs
    regions_same p j no_regions no_regions h = refl
    regions_same p j (region r bs rs) (region q cs qs) h = ap₂ ◌++◌ (blocks_same (j ∷ p) 0 bs cs h.1) (regions_same p (suc j) rs qs h.2)
    regions_same p j no_regions (region q cs qs) h = absurd h
    regions_same p j (region r bs rs) no_regions h = absurd h

    blocks_same : (p : Path) (k : ℕ) (bs : Blocks (ResolvedOp T A) (ResolvedBlock T A) ⊤) (cs : Blocks (BuiltOp T A X) (BuiltBlock T A X) ⊤) → MatchBlocks OfO OfB (λ r s. ⊤) bs cs → block_uses p k bs ≡ block_links p k cs
    blocks_same p k no_blocks no_blocks h = refl
    blocks_same p k (block b os bs) (block c ps cs) h = ap₂ ◌++◌ (operations_same (k ∷ p) 0 os ps h.1) (blocks_same p (suc k) bs cs h.2)
    blocks_same p k no_blocks (block c ps cs) h = absurd h
    blocks_same p k (block b os bs) no_blocks h = absurd h

    operations_same : (p : Path) (i : ℕ) (os : Operations (ResolvedOp T A) (ResolvedBlock T A) ⊤) (ps : Operations (BuiltOp T A X) (BuiltBlock T A X) ⊤) → MatchOperations OfO OfB (λ r s. ⊤) os ps → operation_uses p i os ≡ operation_links p i ps
    operations_same p i no_operations no_operations h = refl
    operations_same p i (operation o rs os) (operation q ss ps) h = ap₂ ◌++◌ (ap₂ ◌++◌ (own_uses (i ∷ p) o q h.0) (regions_same (i ∷ p) 0 rs ss h.1)) (operations_same p (suc i) os ps h.2)
    operations_same p i no_operations (operation q ss ps) h = absurd h
    operations_same p i (operation o rs os) no_operations h = absurd h

  -- the uses inside of matching roots
  pub same_uses : (a : Root (ResolvedOp T A) (ResolvedBlock T A) ⊤) (b : Built T A X) → MatchRoots OfO OfB (λ r s. ⊤) a b → SameUses a b
  same_uses a b h = ap₂ ◌++◌ (own_uses [] a.own b.own h.0) (regions_same [] 0 a.regions b.regions h.1)
