-- For callers: the uses inside a root of a context: each operand and each successor with the place of its definition.
use Rattle.std.specs.Prelude.{◌≡◌, ℕ, suc, List, [], ◌∷◌, ◌++◌, ⊤}
use Rattle.irtext_grammar.specs.Grammar.Forest.{Regions, no_regions, region, Blocks, no_blocks, block, Operations, no_operations, operation, Root}
use Rattle.irtext_grammar.specs.Graphs.Build.{Built}
use Rattle.irtext_grammar.specs.Graphs.Links.{links_from, links}
use Rattle.irtext_grammar.specs.Graphs.Same.{ResolvedOp, ResolvedBlock}
use Rattle.irtext_grammar.specs.Names.Script.{Path, Place, User, operand, successor}

module _ {T A : Type 0} where
  -- the uses by the operation at this path
  abbrev pub op_uses : Path → ResolvedOp T A → List (User × Place)
  op_uses p o = links_from (operand p) 0 o.operands ++ links_from (successor p) 0 o.successors

  abbrev mutual
    -- the uses by the operations in regions; j is the index of the first region
    pub region_uses : Path → ℕ → Regions (ResolvedOp T A) (ResolvedBlock T A) ⊤ → List (User × Place)
    region_uses p j no_regions = []
    region_uses p j (region r bs rs) = block_uses (j ∷ p) 0 bs ++ region_uses p (suc j) rs

    -- the uses by the operations in blocks; k is the index of the first block
    pub block_uses : Path → ℕ → Blocks (ResolvedOp T A) (ResolvedBlock T A) ⊤ → List (User × Place)
    block_uses p k no_blocks = []
    block_uses p k (block h os bs) = operation_uses (k ∷ p) 0 os ++ block_uses p (suc k) bs

    -- the uses by operations and those nested in them; i is the index of the first
    pub operation_uses : Path → ℕ → Operations (ResolvedOp T A) (ResolvedBlock T A) ⊤ → List (User × Place)
    operation_uses p i no_operations = []
    operation_uses p i (operation o rs os) = (op_uses (i ∷ p) o ++ region_uses (i ∷ p) 0 rs) ++ operation_uses p (suc i) os

  -- the uses inside a root
  abbrev pub uses : Root (ResolvedOp T A) (ResolvedBlock T A) ⊤ → List (User × Place)
  uses g = op_uses [] g.own ++ region_uses [] 0 g.regions

  -- the uses inside a root are the links inside what was built: each definition has the same users
  abbrev pub SameUses : {X : Type 0} → Root (ResolvedOp T A) (ResolvedBlock T A) ⊤ → Built T A X → Type 0
  SameUses a b = uses a ≡ links b
