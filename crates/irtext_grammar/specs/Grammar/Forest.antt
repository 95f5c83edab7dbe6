-- For callers: nesting: regions contain blocks, blocks contain operations, operations contain regions. A forest is a list of one of the
-- three. Each node has data of its own, whose type is a parameter: O of an operation, B of a block, R of a region.
use Rattle.std.specs.Prelude.{List, [], ◌∷◌, ⊤}

mutual
  -- regions, each with its blocks
  pub data Regions (O B R : Type 0) : Type 0 where
    no_regions : Regions O B R
    region : R → Blocks O B R → Regions O B R → Regions O B R

  -- blocks, each with its operations
  pub data Blocks (O B R : Type 0) : Type 0 where
    no_blocks : Blocks O B R
    block : B → Operations O B R → Blocks O B R → Blocks O B R

  -- operations, each with its regions
  pub data Operations (O B R : Type 0) : Type 0 where
    no_operations : Operations O B R
    operation : O → Regions O B R → Operations O B R → Operations O B R

-- a single operation, with its regions
pub record Root (O B R : Type 0) : Type 0 where
  pub own : O
  pub regions : Regions O B R

-- the regions as a list of pairs: the data of a region, and its blocks
abbrev pub regions_list : {O B R : Type 0} → Regions O B R → List (R × Blocks O B R)
regions_list no_regions = []
regions_list (region r bs rs) = (r, bs) ∷ regions_list rs

-- Two forests have the same shape, and the data at each node match.
module _ {O B R O' B' R' : Type 0} (SameO : O → O' → Type 0) (SameB : B → B' → Type 0) (SameR : R → R' → Type 0) where
  abbrev mutual
    -- equally many regions, which match pairwise, with everything nested in them
    pub MatchRegions : Regions O B R → Regions O' B' R' → Type 0
    MatchRegions no_regions no_regions = ⊤
    MatchRegions (region r bs rs) (region r' bs' rs') = SameR r r' × MatchBlocks bs bs' × MatchRegions rs rs'
    MatchRegions _ _ = ⊥

    -- equally many blocks, which match pairwise, with everything nested in them
    pub MatchBlocks : Blocks O B R → Blocks O' B' R' → Type 0
    MatchBlocks no_blocks no_blocks = ⊤
    MatchBlocks (block b os bs) (block b' os' bs') = SameB b b' × MatchOperations os os' × MatchBlocks bs bs'
    MatchBlocks _ _ = ⊥

    -- equally many operations, which match pairwise, with everything nested in them
    pub MatchOperations : Operations O B R → Operations O' B' R' → Type 0
    MatchOperations no_operations no_operations = ⊤
    MatchOperations (operation o rs os) (operation o' rs' os') = SameO o o' × MatchRegions rs rs' × MatchOperations os os'
    MatchOperations _ _ = ⊥

  -- the roots match, with everything nested in them
  abbrev pub MatchRoots : Root O B R → Root O' B' R' → Type 0
  MatchRoots t t' = SameO t.own t'.own × MatchRegions t.regions t'.regions

-- A property holds of each node, at every depth.
module _ {O B R : Type 0} (OfO : O → Type 0) (OfB : B → Type 0) (OfR : R → Type 0) where
  abbrev mutual
    -- it holds of each region and of everything nested in it
    pub AllRegions : Regions O B R → Type 0
    AllRegions no_regions = ⊤
    AllRegions (region r bs rs) = OfR r × AllBlocks bs × AllRegions rs

    -- it holds of each block and of everything nested in it
    pub AllBlocks : Blocks O B R → Type 0
    AllBlocks no_blocks = ⊤
    AllBlocks (block b os bs) = OfB b × AllOperations os × AllBlocks bs

    -- it holds of each operation and of everything nested in it
    pub AllOperations : Operations O B R → Type 0
    AllOperations no_operations = ⊤
    AllOperations (operation o rs os) = OfO o × AllRegions rs × AllOperations os
