-- For callers: the links of a built root: the definition of each operand and each successor.
use Rattle.std.specs.Prelude.{◌≡◌, ℕ, suc, true, List, [], ◌∷◌, ◌++◌, Option, is_some, ⊤}
use Rattle.std.specs.List.{list_all}
use Rattle.irtext_grammar.specs.Grammar.Forest.{Regions, no_regions, region, Blocks, no_blocks, block, Operations, no_operations, operation, AllRegions}
use Rattle.irtext_grammar.specs.Names.Script.{Path, Place, User, operand, successor}
use Rattle.irtext_grammar.specs.Names.Scopes.{link}
use Rattle.irtext_grammar.specs.Graphs.Build.{BuiltOp, BuiltBlock, Built}

-- the links of users of one kind, from index k on
abbrev pub links_from : (ℕ → User) → ℕ → List (Option Place) → List (User × Place)
links_from user k [] = []
links_from user k (o ∷ os) = link (user k) o ++ links_from user (suc k) os

module _ {T A X : Type 0} where
  -- the links of the operation at this path
  abbrev pub op_links : Path → BuiltOp T A X → List (User × Place)
  op_links p o = links_from (operand p) 0 o.operands ++ links_from (successor p) 0 o.successors

  abbrev mutual
    -- the links of the operations in regions; j is the index of the first region
    pub region_links : Path → ℕ → Regions (BuiltOp T A X) (BuiltBlock T A X) ⊤ → List (User × Place)
    region_links p j no_regions = []
    region_links p j (region r bs rs) = block_links (j ∷ p) 0 bs ++ region_links p (suc j) rs

    -- the links of the operations in blocks; k is the index of the first block
    pub block_links : Path → ℕ → Blocks (BuiltOp T A X) (BuiltBlock T A X) ⊤ → List (User × Place)
    block_links p k no_blocks = []
    block_links p k (block h os bs) = operation_links (k ∷ p) 0 os ++ block_links p (suc k) bs

    -- the links of operations and of those nested in them; i is the index of the first
    pub operation_links : Path → ℕ → Operations (BuiltOp T A X) (BuiltBlock T A X) ⊤ → List (User × Place)
    operation_links p i no_operations = []
    operation_links p i (operation o rs os) = (op_links (i ∷ p) o ++ region_links (i ∷ p) 0 rs) ++ operation_links p (suc i) os

  -- the links of a root
  abbrev pub links : Built T A X → List (User × Place)
  links g = op_links [] g.own ++ region_links [] 0 g.regions

  -- each operand and each successor of the operation has a definition
  abbrev pub OpLinked : BuiltOp T A X → Type 0
  OpLinked o = (list_all is_some o.operands ≡ true) × (list_all is_some o.successors ≡ true)

  -- each operand and each successor in a root has a definition
  abbrev pub Linked : Built T A X → Type 0
  Linked g = OpLinked g.own × AllRegions OpLinked (λ h. ⊤) (λ r. ⊤) g.regions
