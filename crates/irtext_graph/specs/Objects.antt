-- The objects of three arenas as one forest.
use Rattle.std.specs.Prelude.{◌++◌, ◌∷◌, ◌≡◌, ◌≢◌, ◌<◌, ◌+◌, ◌&&◌, eqb, Bool, true, false, ℕ, List, [], Option, Some, None, map, IsSome, nat_lt}
use Rattle.std.specs.Option.{option_map}
use Rattle.irtext_graph.specs.declared.arena.Ptr.{Ptr}
use Rattle.irtext_graph.specs.declared.object.Object.{Object}
use Rattle.irtext_graph.specs.declared.object.Object.TheVariants.{TheOperation, TheBlock, TheRegion}
use Rattle.irtext_graph.specs.declared.objects.Objects.{Objects}
use Rattle.irtext_graph.specs.Content.{Content, Content.{AnOperation, ABlock, ARegion}, operation_content, block_content, region_content, nodes}
use Rattle.irtext_graph.specs.Nested.{Nested, Within}
use Rattle.irtext_graph.specs.Nest.{up as parent_at, kids as children_at, links as links_of, datum, HasRoom}
use Rattle.irtext_graph.specs.Arena.{get, KeepsPlaces, ShedsPlaces}
use Rattle.irtext_graph.specs.declared.object.Operation.{Operation}
use Rattle.irtext_graph.specs.declared.object.BasicBlock.{BasicBlock}
use Rattle.irtext_graph.specs.declared.object.Region.{Region}

-- whether two pointers are the same
abbrev pub eq_ptr : {K : Type 0} → Ptr K → Ptr K → Bool
eq_ptr p q = eqb p.index q.index && eqb p.generation q.generation

-- whether two objects are the same
abbrev pub eq_object : Object → Object → Bool
eq_object (TheOperation p) (TheOperation q) = eq_ptr p q
eq_object (TheBlock p) (TheBlock q) = eq_ptr p q
eq_object (TheRegion p) (TheRegion q) = eq_ptr p q
eq_object _ _ = false

-- an object of the first kind can be the parent of one of the second kind
abbrev pub Fits : Object → Object → Type 0
Fits (TheOperation _) (TheRegion _) = Unit {0}
Fits (TheRegion _) (TheBlock _) = Unit {0}
Fits (TheBlock _) (TheOperation _) = Unit {0}
Fits _ _ = ⊥

-- what can have one operation as a child can have another
pub operation_alike : (p q : Ptr Operation) (k : Object) → Fits k (TheOperation p) → Fits k (TheOperation q)
operation_alike p q (TheOperation _) f = f
operation_alike p q (TheBlock _) f = f
operation_alike p q (TheRegion _) f = f

-- the same of blocks
pub block_alike : (p q : Ptr BasicBlock) (k : Object) → Fits k (TheBlock p) → Fits k (TheBlock q)
block_alike p q (TheOperation _) f = f
block_alike p q (TheBlock _) f = f
block_alike p q (TheRegion _) f = f

-- the same of regions
pub region_alike : (p q : Ptr Region) (k : Object) → Fits k (TheRegion p) → Fits k (TheRegion q)
region_alike p q (TheOperation _) f = f
region_alike p q (TheBlock _) f = f
region_alike p q (TheRegion _) f = f

module _ {O B T : Type 0} where
  -- the parent of an object
  abbrev pub up : Objects O B T → Object → Option Object
  up x (TheOperation p) = option_map TheBlock (parent_at x.operations p)
  up x (TheBlock p) = option_map TheRegion (parent_at x.blocks p)
  up x (TheRegion p) = option_map TheOperation (parent_at x.regions p)

  -- the children of an object, in order
  abbrev pub kids : Objects O B T → Object → List Object
  kids x (TheOperation p) = map TheRegion (children_at x.operations p)
  kids x (TheBlock p) = map TheOperation (children_at x.blocks p)
  kids x (TheRegion p) = map TheBlock (children_at x.regions p)

  -- when an object was made, and its content
  abbrev pub what : Objects O B T → Object → Option (Content O B T)
  what x (TheOperation p) = option_map (λ d. AnOperation d.0 (operation_content d.1)) (datum x.operations p)
  what x (TheBlock p) = option_map (λ d. ABlock d.0 (block_content d.1)) (datum x.blocks p)
  what x (TheRegion p) = option_map (λ d. ARegion d.0 (region_content d.1)) (datum x.regions p)

  -- the object is live
  abbrev pub Lives : Objects O B T → Object → Type 0
  Lives x o = IsSome (what x o)

  -- the number of children of all objects
  abbrev pub links : Objects O B T → ℕ
  links x = links_of x.operations + links_of x.blocks + links_of x.regions

  -- an object is unchanged
  pub record SameAt (old new : Objects O B T) (o : Object) : Type 0 where
    pub same_up : up new o ≡ up old o
    pub same_kids : kids new o ≡ kids old o
    pub same_what : what new o ≡ what old o

  -- the object is not live, and has no parent and children
  pub record IsGone (x : Objects O B T) (o : Object) : Type 0 where
    pub gone_up : up x o ≡ None
    pub gone_kids : kids x o ≡ []
    pub gone_what : what x o ≡ None

  -- the objects are a forest
  abbrev pub IsForest : Objects O B T → Type 0
  IsForest x = Nested (kids x) (up x)

  -- the object is live, and has room for one more child
  abbrev pub HasRoomFor : Objects O B T → Object → Type 0
  HasRoomFor x (TheOperation p) = HasRoom (get x.operations p)
  HasRoomFor x (TheBlock p) = HasRoom (get x.blocks p)
  HasRoomFor x (TheRegion p) = HasRoom (get x.regions p)

  -- what had room for one more child still has
  pub record KeepsRoom (old new : Objects O B T) : Type 0 where
    pub operations : (p : Ptr Operation) → HasRoom (get old.operations p) → HasRoom (get new.operations p)
    pub blocks : (p : Ptr BasicBlock) → HasRoom (get old.blocks p) → HasRoom (get new.blocks p)
    pub regions : (p : Ptr Region) → HasRoom (get old.regions p) → HasRoom (get new.regions p)

  -- c has no parent, and k is neither c nor nested in it
  pub record CanInsert (x : Objects O B T) (k c : Object) : Type 0 where
    pub free : up x c ≡ None
    pub apart : Within (up x) c k → ⊥

  -- the arenas have the same objects
  pub record SameNodes (old new : Objects O B T) : Type 0 where
    pub same_operations : nodes new.operations ≡ nodes old.operations
    pub same_blocks : nodes new.blocks ≡ nodes old.blocks
    pub same_regions : nodes new.regions ≡ nodes old.regions

  -- the data of all objects is unchanged, links included
  pub record SameData (old new : Objects O B T) : Type 0 where
    pub operation_data : (p : Ptr Operation) → datum new.operations p ≡ datum old.operations p
    pub block_data : (p : Ptr BasicBlock) → datum new.blocks p ≡ datum old.blocks p

  -- the data of an object is unchanged, links included
  pub record SameDatum (old new : Objects O B T) (q : Object) : Type 0 where
    pub operation : (p : Ptr Operation) → q ≡ TheOperation p → datum new.operations p ≡ datum old.operations p
    pub block : (p : Ptr BasicBlock) → q ≡ TheBlock p → datum new.blocks p ≡ datum old.blocks p

  -- objects may be gone, but no generation of a slot is used again
  pub record Sheds (old new : Objects O B T) : Type 0 where
    pub operation_places : ShedsPlaces old.operations new.operations
    pub block_places : ShedsPlaces old.blocks new.blocks
    pub region_places : ShedsPlaces old.regions new.regions

  -- the slots of all arenas are unchanged
  pub record SamePlaces (old new : Objects O B T) : Type 0 where
    pub operation_places : KeepsPlaces old.operations new.operations
    pub block_places : KeepsPlaces old.blocks new.blocks
    pub region_places : KeepsPlaces old.regions new.regions

  -- how many objects were made before an object
  abbrev pub born_of : Content O B T → ℕ
  born_of (AnOperation b _) = b
  born_of (ABlock b _) = b
  born_of (ARegion b _) = b

  -- whether the object is live and was made before m
  abbrev pub is_older : ℕ → Option (Content O B T) → Bool
  is_older m None = false
  is_older m (Some k) = nat_lt (born_of k) m

  -- the object c, which had no children and was a child of k, is gone
  pub record Drops (old new : Objects O B T) (k c : Object) : Type 0 where
    pub forest : IsForest new
    pub gone : IsGone new c
    pub parent : up new k ≡ up old k
    pub same : what new k ≡ what old k
    pub others : (q : Object) → q ≢ k → q ≢ c → SameAt old new q
    pub kept_data : (q : Object) → q ≢ c → SameDatum old new q
    pub sheds : Sheds old new
    pub fewer : links new < links old

  -- all is unchanged, slots and links of uses included
  pub record Renumbers (old new : Objects O B T) : Type 0 where
    pub at : (q : Object) → SameAt old new q
    pub as_many : links new ≡ links old
    pub places : SamePlaces old new
    pub all_data : SameData old new
