-- For callers: the marks of a text, in its order, each with the operation or block that carries it.
use Rattle.std.specs.Prelude.{ℕ, List, [], ◌∷◌, ◌++◌, Option, Some, None}
use Rattle.irtext_context.specs.declared.base.item.Item.{Item}
use Rattle.irtext_context.specs.declared.base.item.Item.TheVariants as item
use Rattle.irtext_grammar.specs.Grammar.Forest.{Regions, no_regions, region, Blocks, no_blocks, block, Operations, no_operations, operation}
use Rattle.irtext_grammar.specs.Grammar.Tree.{Op, Head, Brace, Mark}
use Rattle.irtext_names.specs.Held.{PtrRegions, PtrBlocks, PtrOperations}

-- the mark of the text, if there is one, with the operation or block that carries it
abbrev pub noted_as : {X : Type 0} → Option (Mark ℕ) → X → List (ℕ × X)
noted_as None item = []
noted_as (Some m) item = (m.index, item) ∷ []

module _ {T A : Type 0} where
  abbrev mutual
    -- the marks in regions: the index of each, and the pointer at the place of what carries it
    pub marks_on_regions : Regions (Op ℕ T A) (Head ℕ T A) (Brace ℕ) → PtrRegions → List (ℕ × Item)
    marks_on_regions (region brace bs rs) (region r ps qs) = marks_on_blocks bs ps ++ marks_on_regions rs qs
    marks_on_regions _ _ = []

    -- the same of blocks; the mark of a block comes first
    pub marks_on_blocks : Blocks (Op ℕ T A) (Head ℕ T A) (Brace ℕ) → PtrBlocks → List (ℕ × Item)
    marks_on_blocks (block h os bs) (block b ps qs) = noted_as h.mark (item.Block b) ++ (marks_on_operations os ps ++ marks_on_blocks bs qs)
    marks_on_blocks _ _ = []

    -- the same of operations; the mark of an operation comes after those in its regions
    pub marks_on_operations : Operations (Op ℕ T A) (Head ℕ T A) (Brace ℕ) → PtrOperations → List (ℕ × Item)
    marks_on_operations (operation o rs os) (operation p qs ps) = (marks_on_regions rs qs ++ noted_as o.mark (item.Operation p)) ++ marks_on_operations os ps
    marks_on_operations _ _ = []
