-- What holds of each item of what nests, with what is inside it: stated once, and proved from the inside outward.
use Rattle.std.specs.Prelude.{⊤}
use Rattle.irtext_grammar.specs.Grammar.Forest.{Regions, no_regions, region, Blocks, no_blocks, block, Operations, no_operations, operation}
use Rattle.irtext_grammar.specs.Grammar.Tree.{Op, Head, Brace, shown, elided}

-- it holds of each of the regions with its blocks
abbrev pub EachRegion : {O B R : Type 0} → (R → Blocks O B R → Type 0) → Regions O B R → Type 0
EachRegion Q no_regions = ⊤
EachRegion Q (region r bs rs) = Q r bs × EachRegion Q rs

-- it holds of each of the blocks with its operations
abbrev pub EachBlock : {O B R : Type 0} → (B → Operations O B R → Type 0) → Blocks O B R → Type 0
EachBlock Q no_blocks = ⊤
EachBlock Q (block b os bs) = Q b os × EachBlock Q bs

-- it holds of each of the operations with its regions
abbrev pub EachOperation : {O B R : Type 0} → (O → Regions O B R → Type 0) → Operations O B R → Type 0
EachOperation Q no_operations = ⊤
EachOperation Q (operation o rs os) = Q o rs × EachOperation Q os

module _ {O B R : Type 0} (OfRegion : R → Blocks O B R → Type 0) (OfBlock : B → Operations O B R → Type 0) (OfOperation : O → Regions O B R → Type 0)
    (of_region : (r : R) (bs : Blocks O B R) → EachBlock OfBlock bs → OfRegion r bs) (of_block : (b : B) (os : Operations O B R) → EachOperation OfOperation os → OfBlock b os)
    (of_operation : (o : O) (rs : Regions O B R) → EachRegion OfRegion rs → OfOperation o rs) where
  mutual
    -- what holds of an item where it holds of those inside it holds of all regions
    pub all_regions : (rs : Regions O B R) → EachRegion OfRegion rs
    all_regions no_regions = tt
    all_regions (region r bs rs) = (of_region r bs (all_blocks bs), all_regions rs)

    -- and of all blocks
    pub all_blocks : (bs : Blocks O B R) → EachBlock OfBlock bs
    all_blocks no_blocks = tt
    all_blocks (block b os bs) = (of_block b os (all_operations os), all_blocks bs)

    -- and of all operations
    pub all_operations : (os : Operations O B R) → EachOperation OfOperation os
    all_operations no_operations = tt
    all_operations (operation o rs os) = (of_operation o rs (all_regions rs), all_operations os)

-- Every region is shown, and something holds of every operation with its regions, at any depth.
module _ {P T A : Type 0} (Q : Op P T A → Regions (Op P T A) (Head P T A) (Brace P) → Type 0) where
  abbrev mutual
    -- it holds in each of the regions
    pub ShownWith : Regions (Op P T A) (Head P T A) (Brace P) → Type 0
    ShownWith no_regions = ⊤
    ShownWith (region (shown place) bs rs) = BlocksWith bs × ShownWith rs
    ShownWith (region elided bs rs) = ⊥

    -- it holds in each of the blocks
    pub BlocksWith : Blocks (Op P T A) (Head P T A) (Brace P) → Type 0
    BlocksWith no_blocks = ⊤
    BlocksWith (block h os bs) = OperationsWith os × BlocksWith bs

    -- it holds of each of the operations
    pub OperationsWith : Operations (Op P T A) (Head P T A) (Brace P) → Type 0
    OperationsWith no_operations = ⊤
    OperationsWith (operation o rs os) = (Q o rs × ShownWith rs) × OperationsWith os
