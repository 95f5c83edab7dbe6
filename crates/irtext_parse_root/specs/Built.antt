-- Between functions: what the context holds of the text that was parsed so far, and which items carry its marks. An item is an operation
-- or a block with its place in the text.
use Rattle.std.specs.Prelude.{◌≡◌, ◌⊎◌, ℕ, Bool, List, [], ◌∷◌, Option, Some, None}
use Rattle.irtext_base.specs.Format.{Format, Id}
use Rattle.irtext_base.specs.declared.location.Location.{Location}
use Rattle.irtext_context.specs.Context.{ContextView}
use Rattle.irtext_context.specs.declared.base.item.Item.{Item}
use Rattle.irtext_graph.specs.declared.arena.Ptr.{Ptr}
use Rattle.irtext_graph.specs.declared.object.Operation.{Operation}
use Rattle.irtext_graph.specs.declared.object.Region.{Region}
use Rattle.irtext_graph.specs.declared.object.Object.{Object}
use Rattle.irtext_graph.specs.declared.object.Object.TheVariants.{TheRegion}
use Rattle.irtext_graph.specs.Chained.{Among}
use Rattle.irtext_grammar.specs.Grammar.Forest as forest
use Rattle.irtext_grammar.specs.Grammar.Forest.{Blocks, no_blocks, Operations, no_regions}
use Rattle.irtext_grammar.specs.Grammar.Tree.{Op, Head, Brace, shown}
use Rattle.irtext_grammar.specs.Building.{Building, region_so_far, whole_blocks, nothing_open, building}
use Rattle.irtext_grammar.specs.Unchanged.{OpenAt, RegionsHold, IsThere}
use Rattle.irtext_grammar.specs.Tracks.{Made, noted, HasChild, HoldsMade}
use Rattle.irtext_parse_root.specs.Carried.{marks_in_blocks, marks_so_far, AreCarried}
use Rattle.irtext_parse_root.specs.Here.{Base, outermost, within}
use Rattle.irtext_parse_root.specs.Levels.{Level, ats_of}
use Rattle.irtext_parse_root.specs.Recorded.{Did, did_leave, all_done}

module _ {T A : Type 0} where
  -- what is built before anything is parsed: nothing; or the region, without blocks
  abbrev pub start_of : Base → Building T A
  start_of (outermost p) = nothing_open
  start_of (within r) = record { unfinished = region_so_far no_blocks None ∷ []; tree = None }

-- Each item is complete, and has one place. Each live object was live at the start, or is complete and was not; what was live at the
-- start is live now. And each complete object is the region, or a child of a complete object.
pub record RegionTracks {T A : Type 0} (start c : ContextView T A) (items : Made) (whole : List Object) (r : Ptr Region) : Type 0 where
  pub known : (n : ℕ) (o : Object) → Among (n, o) items → Among o whole
  pub once : (n m : ℕ) (o : Object) → Among (n, o) items → Among (m, o) items → n ≡ m
  pub all : (o : Object) → IsThere c o → IsThere start o ⊎ Among o whole
  pub came : (o : Object) → Among o whole → IsThere start o → ⊥
  pub stays : (o : Object) → IsThere start o → IsThere c o
  pub inside : (o : Object) → Among o whole → (o ≡ TheRegion r) ⊎ ((k : Object) × Among k whole × HasChild c k o)

module _ {T A : Type 0} (formats : Id → Option Format) (IsLocation : ℕ → Location A → Type 0) (base : Base) (start c : ContextView T A) (items : Made) where
  -- what is built by everything that was done
  abbrev pub built : List (Did T A) → Building T A
  built ds = all_done (building formats) ds (start_of base)

  -- The context holds what was built, with these frames open, and with the tree under this pointer if the tree is complete. Only these
  -- items were created since the start, and they carry the marks.
  pub record IsHeld (marks : List (ℕ × Item)) (ats : List (OpenAt T A)) (root : Option (Ptr Operation)) (ds : List (Did T A)) : Type 0 where
    pub whole : List Object
    pub holds : HoldsMade IsLocation start c items whole ats root (built ds)
    pub carried : AreCarried items (marks_so_far (built ds)) marks

  -- The region was left, and the context holds all of its blocks. Only these items were created since the start, and they carry the
  -- marks.
  pub record HoldsRegion (marks : List (ℕ × Item)) (r : Ptr Region) (ds : List (Did T A)) : Type 0 where
    pub iso : Bool
    pub place : ℕ
    pub before : List (Did T A)
    pub is : ds ≡ did_leave iso place ∷ before
    pub blocks : Blocks (Op ℕ T A) (Head ℕ T A) (Brace ℕ)
    pub last : Option (Head ℕ T A × Operations (Op ℕ T A) (Head ℕ T A) (Brace ℕ))
    pub built_before : (built before).unfinished ≡ region_so_far blocks last ∷ []
    pub whole : List Object
    pub holds : RegionsHold (noted items IsLocation) c whole (r ∷ []) (forest.region (shown place) (whole_blocks blocks last) no_regions)
    pub there : (o : Object) → Among o whole → IsThere c o
    pub tracks : RegionTracks start c items whole r
    pub carried : AreCarried items (marks_in_blocks (whole_blocks blocks last)) marks

module _ {T A : Type 0} (formats : Id → Option Format) (L : ℕ → Location A → Type 0) where
  -- the context holds everything that was to be parsed, and no frame is open any more
  abbrev pub Ended : Base → ContextView T A → ContextView T A → Made → List (ℕ × Item) → List (Did T A) → Type 0
  Ended (outermost p) start c items marks ds = IsHeld formats L (outermost p) start c items marks [] (Some p) ds
  Ended (within r) start c items marks ds = HoldsRegion formats L (within r) start c items marks r ds

  -- the context holds everything that was built, with these frames open
  abbrev pub Built : Base → ContextView T A → ContextView T A → Made → List (ℕ × Item) → List (Level T A) → List (Did T A) → Type 0
  Built base start c items marks [] ds = Ended base start c items marks ds
  Built base start c items marks (l ∷ ls) ds = IsHeld formats L base start c items marks (ats_of (l ∷ ls)) None ds
