-- Between functions: which items were created while nested text was parsed, each with its place in the text, and that nothing else was
-- created: all that is new since the start is complete or open, and what is complete has its parent there. An item is here an operation
-- or a block.
use Rattle.std.specs.Prelude.{◌≡◌, ◌⊎◌, ℕ, List, [], Option, Some, option_map}
use Rattle.std.specs.Option.{unwrap_or}
use Rattle.irtext_base.specs.declared.location.Location.{Location}
use Rattle.irtext_context.specs.Context.{ContextView, BlockView, RegionView, operation, block, region, regions_in}
use Rattle.irtext_graph.specs.declared.arena.Ptr.{Ptr}
use Rattle.irtext_graph.specs.declared.object.Operation.{Operation}
use Rattle.irtext_graph.specs.declared.object.BasicBlock.{BasicBlock}
use Rattle.irtext_graph.specs.declared.object.Object.{Object}
use Rattle.irtext_graph.specs.declared.object.Object.TheVariants.{TheOperation, TheBlock, TheRegion}
use Rattle.irtext_graph.specs.Chained.{Among}
use Rattle.irtext_grammar.specs.Building.{Building}
use Rattle.irtext_grammar.specs.Unchanged.{OpenAt, open_objects, IsThere, HoldsSoFar}

-- the items that were created so far: the place in the text of each operation and each block, and its object
abbrev pub Made : Type 0
Made = List (ℕ × Object)

-- the item is recorded at this place, and the location is one of this place
abbrev pub noted : {A : Type 0} → Made → (ℕ → Location A → Type 0) → Object → ℕ → Location A → Type 0
noted items IsLocation o place loc = Among (place, o) items × IsLocation place loc

-- the blocks of a region; none if it is not live
abbrev pub blocks_in : Option RegionView → List (Ptr BasicBlock)
blocks_in o = unwrap_or (option_map (λ view. view.blocks) o) []

module _ {T A : Type 0} where
  -- the operations of a block; none if it is not live
  abbrev pub operations_in : Option (BlockView T A) → List (Ptr Operation)
  operations_in o = unwrap_or (option_map (λ view. view.operations) o) []

  -- the second object is a child of the first
  abbrev pub HasChild : ContextView T A → Object → Object → Type 0
  HasChild c (TheOperation p) (TheRegion r) = Among r (regions_in (operation c p))
  HasChild c (TheRegion r) (TheBlock b) = Among b (blocks_in (region c r))
  HasChild c (TheBlock b) (TheOperation p) = Among p (operations_in (block c b))
  HasChild c _ _ = ⊥

  -- the object is complete, or open
  abbrev pub IsHeld : List Object → List (OpenAt T A) → Object → Type 0
  IsHeld whole ats o = Among o whole ⊎ Among o (open_objects ats)

  -- Each item is complete or open, and has one place. Each object that is present was present at the start, or is complete or open and
  -- was not; what was present still is. And each complete object is a child of one that is complete or open, or is the root.
  pub record Tracks (start c : ContextView T A) (items : Made) (whole : List Object) (ats : List (OpenAt T A)) (root : Option (Ptr Operation)) : Type 0 where
    pub known : (n : ℕ) (o : Object) → Among (n, o) items → IsHeld whole ats o
    pub once : (n m : ℕ) (o : Object) → Among (n, o) items → Among (m, o) items → n ≡ m
    pub all : (o : Object) → IsThere c o → IsThere start o ⊎ IsHeld whole ats o
    pub came : (o : Object) → IsHeld whole ats o → IsThere start o → ⊥
    pub stays : (o : Object) → IsThere start o → IsThere c o
    pub inside : (o : Object) → Among o whole → (option_map TheOperation root ≡ Some o) ⊎ ((k : Object) × IsHeld whole ats k × HasChild c k o)

  module _ (IsLocation : ℕ → Location A → Type 0) where
    -- The context contains what was parsed so far, with each item at its place, and nothing else was created since the start.
    pub record HoldsMade (start c : ContextView T A) (items : Made) (whole : List Object) (ats : List (OpenAt T A)) (root : Option (Ptr Operation)) (b : Building T A) : Type 0 where
      pub so_far : HoldsSoFar (noted items IsLocation) c whole ats root b
      pub tracks : Tracks start c items whole ats root
