-- Each complete object is under the root, once nothing is open: its chain of parents ends, and consists of complete objects.
use Rattle.std.proofs.Common.{◌≡◌, ◌⊎◌, ℕ, zero, suc, List, [], ◌∷◌, ◌++◌, map, Option, Some, None, slice_get, refl, sym, ap, subst, inl, inr}
use Rattle.irtext_base.specs.declared.location.Location.{Location}
use Rattle.irtext_context.specs.Context.{ContextView, OperationView, BlockView, RegionView, operation, block, region, regions_in}
use Rattle.irtext_graph.specs.declared.arena.Ptr.{Ptr}
use Rattle.irtext_graph.specs.declared.object.Operation.{Operation}
use Rattle.irtext_graph.specs.declared.object.BasicBlock.{BasicBlock}
use Rattle.irtext_graph.specs.declared.object.Region.{Region}
use Rattle.irtext_graph.specs.declared.object.Object.{Object}
use Rattle.irtext_graph.specs.declared.object.Object.TheVariants.{TheOperation, TheBlock, TheRegion}
use Rattle.irtext_graph.specs.Chained.{Among}
use Rattle.irtext_graph.specs.Nested.{climb, Nested}
use Rattle.irtext_graph.specs.Graph.{children, parent}
use Rattle.irtext_graph.specs.Parts.{regions, blocks, operations_in}
use Rattle.irtext_graph.proofs.Nests.{some_eq}
use Rattle.irtext_graph.proofs.Preorders.{among_left, among_right}
use Rattle.irtext_grammar.specs.Contexts.Nested.{pointers}
use Rattle.irtext_grammar.specs.Grammar.Forest as forest
use Rattle.irtext_grammar.specs.Grammar.Forest.{Regions, no_regions, Blocks, no_blocks, Operations, no_operations, Root}
use Rattle.irtext_grammar.specs.Grammar.Tree.{Op, Head, Brace, Tree}
use Rattle.irtext_grammar.specs.Names.Script.{Path}
use Rattle.irtext_grammar.specs.Tracks as tracks
use Rattle.irtext_grammar.specs.Tracks.{Made, blocks_in, HasChild, Tracks}
use Rattle.irtext_names.proofs.Linked.Moving.{among_split}
use Rattle.irtext_names.specs.Alone.{pointers_in}
use Rattle.irtext_names.specs.Held.{PtrRegions, PtrBlocks, PtrOperations, placed_regions, placed_blocks, placed_operations, placed_under}
use Rattle.irtext_names.specs.Placed.{region_ptrs, block_ptrs, operation_ptrs, RegionsAre, BlocksAre, OperationsAre, RootIs}
use Rattle.irtext_names.proofs.Depths.{regions_seen, operations_seen, blocks_seen}

-- what is among is at some index
among_at : {X : Type 0} (x : X) (xs : List X) → Among x xs → (i : ℕ) × (slice_get xs i ≡ Some x)
among_at x [] a = absurd a
among_at x (y ∷ ys) (inl e) = (0, ap Some (sym e))
among_at x (y ∷ ys) (inr a) = let r = among_at x ys a in (suc r.0, r.1)

among_map : {X Y : Type 0} (f : X → Y) (x : X) (xs : List X) → Among x xs → Among (f x) (map f xs)
among_map f x [] a = absurd a
among_map f x (y ∷ ys) (inl e) = inl (ap f e)
among_map f x (y ∷ ys) (inr a) = inr (among_map f x ys a)

-- what is among what a view lists, if there is one, is among what the view is known to list
among_seen : {V X : Type 0} (x : X) (xs : List X) (listed : Option V → List X) (o : Option V) → listed None ≡ [] → ((view : V) → o ≡ Some view → listed (Some view) ≡ xs) → Among x (listed o) → Among x xs
among_seen x xs listed None none known a = absurd (subst (Among x) none a)
among_seen x xs listed (Some view) none known a = subst (Among x) (known view refl) a

module _ {T A : Type 0} (c : ContextView T A) (nest : Nested (children c.graph) (parent c.graph)) where
  listed_parent : (k o : Object) → Among o (children c.graph k) → parent c.graph o ≡ Some k
  listed_parent k o a = let r = among_at o (children c.graph k) a in nest.down k r.0 o r.1

  -- the parent of a child of an object is that object
  pub child_parent : (k o : Object) → HasChild c k o → parent c.graph o ≡ Some k
  child_parent (TheOperation p) (TheRegion r) h = listed_parent (TheOperation p) (TheRegion r) (among_map TheRegion r (regions c.graph p) (among_seen r (regions c.graph p) regions_in (operation c p) refl (regions_seen c p) h))
  child_parent (TheOperation p) (TheOperation q) h = absurd h
  child_parent (TheOperation p) (TheBlock b) h = absurd h
  child_parent (TheRegion r) (TheBlock b) h = listed_parent (TheRegion r) (TheBlock b) (among_map TheBlock b (blocks c.graph r) (among_seen b (blocks c.graph r) blocks_in (region c r) refl (blocks_seen c r) h))
  child_parent (TheRegion r) (TheOperation q) h = absurd h
  child_parent (TheRegion r) (TheRegion q) h = absurd h
  child_parent (TheBlock b) (TheOperation p) h = listed_parent (TheBlock b) (TheOperation p) (among_map TheOperation p (operations_in c.graph b) (among_seen p (operations_in c.graph b) tracks.operations_in (block c b) refl (operations_seen c b) h))
  child_parent (TheBlock b) (TheBlock d) h = absurd h
  child_parent (TheBlock b) (TheRegion r) h = absurd h

-- ---- a child of an object in the list is in the list
-- the object is in the list, with some path
abbrev IsIn : Object → List (Object × Path) → Type 0
IsIn o xs = (q : Path) × Among (o, q) xs

region_listed : (r : Ptr Region) (p : Path) (j : ℕ) (rs : PtrRegions) → Among r (region_ptrs rs) → IsIn (TheRegion r) (placed_regions p j rs)
region_listed r p j no_regions a = absurd a
region_listed r p j (forest.region q bs rs) (inl e) = (j ∷ p, inl (ap (λ z. (TheRegion z, j ∷ p)) e))
region_listed r p j (forest.region q bs rs) (inr a) = let x = region_listed r p (suc j) rs a in (x.0, inr (among_right (TheRegion r, x.0) (placed_blocks (j ∷ p) 0 bs) (placed_regions p (suc j) rs) x.1))

block_listed : (b : Ptr BasicBlock) (p : Path) (j : ℕ) (bs : PtrBlocks) → Among b (block_ptrs bs) → IsIn (TheBlock b) (placed_blocks p j bs)
block_listed b p j no_blocks a = absurd a
block_listed b p j (forest.block d os bs) (inl e) = (j ∷ p, inl (ap (λ z. (TheBlock z, j ∷ p)) e))
block_listed b p j (forest.block d os bs) (inr a) = let x = block_listed b p (suc j) bs a in (x.0, inr (among_right (TheBlock b, x.0) (placed_operations (j ∷ p) 0 os) (placed_blocks p (suc j) bs) x.1))

operation_listed : (q : Ptr Operation) (p : Path) (j : ℕ) (os : PtrOperations) → Among q (operation_ptrs os) → IsIn (TheOperation q) (placed_operations p j os)
operation_listed q p j no_operations a = absurd a
operation_listed q p j (forest.operation o rs os) (inl e) = (j ∷ p, inl (ap (λ z. (TheOperation z, j ∷ p)) e))
operation_listed q p j (forest.operation o rs os) (inr a) = let x = operation_listed q p (suc j) os a in (x.0, inr (among_right (TheOperation q, x.0) (placed_regions (j ∷ p) 0 rs) (placed_operations p (suc j) os) x.1))

module _ {T A : Type 0} (L : ℕ → Location A → Type 0) (c : ContextView T A) (items : Made) where
  -- a child of an object in the list is in the list
  record IsClosed (xs : List (Object × Path)) : Type 0 where
    closed : (k o : Object) (q : Path) → Among (k, q) xs → HasChild c k o → IsIn o xs

  closed_node : (n : Object) (r : Path) (inner next : List (Object × Path)) → ((o : Object) → HasChild c n o → IsIn o inner) → IsClosed inner → IsClosed next → IsClosed ((n, r) ∷ (inner ++ next))
  closed_node n r inner next h x y = record {
    closed = λ k o q i child. elim i [
      | inl e ↦ let z = h o (subst (λ m. HasChild c m o) (ap (λ z. z.0) e) child) in (z.0, inr (among_left (o, z.0) inner next z.1))
      | inr j ↦ elim (among_split (k, q) inner next j) [
        | inl a ↦ let z = x.closed k o q a child in (z.0, inr (among_left (o, z.0) inner next z.1))
        | inr a ↦ let z = y.closed k o q a child in (z.0, inr (among_right (o, z.0) inner next z.1))
      ]
    ];
  }

  closed_none : IsClosed []
  closed_none = record { closed = λ k o q i child. absurd i }

  region_children : (r : Ptr Region) (view : RegionView) (p : Path) (bs : PtrBlocks) → region c r ≡ Some view → view.blocks ≡ block_ptrs bs → (o : Object) → HasChild c (TheRegion r) o → IsIn o (placed_blocks p 0 bs)
  region_children r view p bs is inner (TheBlock b) h = block_listed b p 0 bs (subst (Among b) inner (subst (λ z. Among b (blocks_in z)) is h))
  region_children r view p bs is inner (TheOperation q) h = absurd h
  region_children r view p bs is inner (TheRegion q) h = absurd h

  block_children : (b : Ptr BasicBlock) (view : BlockView T A) (p : Path) (os : PtrOperations) → block c b ≡ Some view → view.operations ≡ operation_ptrs os → (o : Object) → HasChild c (TheBlock b) o → IsIn o (placed_operations p 0 os)
  block_children b view p os is inner (TheOperation q) h = operation_listed q p 0 os (subst (Among q) inner (subst (λ z. Among q (tracks.operations_in z)) is h))
  block_children b view p os is inner (TheBlock d) h = absurd h
  block_children b view p os is inner (TheRegion q) h = absurd h

  operation_children : (p : Ptr Operation) (view : OperationView T A) (q : Path) (rs : PtrRegions) → operation c p ≡ Some view → view.regions ≡ region_ptrs rs → (o : Object) → HasChild c (TheOperation p) o → IsIn o (placed_regions q 0 rs)
  operation_children p view q rs is inner (TheRegion r) h = region_listed r q 0 rs (subst (Among r) inner (subst (λ z. Among r (regions_in z)) is h))
  operation_children p view q rs is inner (TheOperation o) h = absurd h
  operation_children p view q rs is inner (TheBlock b) h = absurd h

  mutual
    regions_closed : (p : Path) (j : ℕ) (ps : PtrRegions) (rs : Regions (Op ℕ T A) (Head ℕ T A) (Brace ℕ)) → RegionsAre L c items ps rs → IsClosed (placed_regions p j ps)
    regions_closed p j no_regions rs h = closed_none
    regions_closed p j (forest.region r bs ps) no_regions h = absurd h
    regions_closed p j (forest.region r bs ps) (forest.region brace hs rs) (at, k, h) =
        closed_node (TheRegion r) (j ∷ p) (placed_blocks (j ∷ p) 0 bs) (placed_regions p (suc j) ps) (region_children r at.view (j ∷ p) bs at.is at.inner) (blocks_closed (j ∷ p) 0 bs hs k) (regions_closed p (suc j) ps rs h)

    blocks_closed : (p : Path) (j : ℕ) (ps : PtrBlocks) (bs : Blocks (Op ℕ T A) (Head ℕ T A) (Brace ℕ)) → BlocksAre L c items ps bs → IsClosed (placed_blocks p j ps)
    blocks_closed p j no_blocks bs h = closed_none
    blocks_closed p j (forest.block b qs ps) no_blocks h = absurd h
    blocks_closed p j (forest.block b qs ps) (forest.block head os bs) (at, k, h) =
        closed_node (TheBlock b) (j ∷ p) (placed_operations (j ∷ p) 0 qs) (placed_blocks p (suc j) ps) (block_children b at.view (j ∷ p) qs at.is at.inner) (operations_closed (j ∷ p) 0 qs os k) (blocks_closed p (suc j) ps bs h)

    operations_closed : (p : Path) (j : ℕ) (ps : PtrOperations) (os : Operations (Op ℕ T A) (Head ℕ T A) (Brace ℕ)) → OperationsAre L c items ps os → IsClosed (placed_operations p j ps)
    operations_closed p j no_operations os h = closed_none
    operations_closed p j (forest.operation q qs ps) no_operations h = absurd h
    operations_closed p j (forest.operation q qs ps) (forest.operation o rs os) (at, k, h) =
        closed_node (TheOperation q) (j ∷ p) (placed_regions (j ∷ p) 0 qs) (placed_operations p (suc j) ps) (operation_children q at.view (j ∷ p) qs at.is at.inner) (regions_closed (j ∷ p) 0 qs rs k) (operations_closed p (suc j) ps os h)

  root_closed : (ps : Root (Ptr Operation) (Ptr BasicBlock) (Ptr Region)) (t : Tree ℕ T A) → RootIs L c items ps t → IsClosed (placed_under ps)
  root_closed ps t is = record {
    closed = λ k o q i child. elim i [
      | inl e ↦ let z = operation_children ps.own is.0.view [] ps.regions is.0.is is.0.inner o (subst (λ m. HasChild c m o) (ap (λ z. z.0) e) child) in (z.0, inr z.1)
      | inr j ↦ let z = (regions_closed [] 0 ps.regions t.regions is.1).closed k o q j child in (z.0, inr z.1)
    ];
  }

  -- ---- the whole
  module _ (start : ContextView T A) (whole : List Object) (p : Ptr Operation) (t : Tree ℕ T A) (is : RootIs L c items (pointers c.graph p) t) (nest : Nested (children c.graph) (parent c.graph)) (held : Tracks start c items whole [] (Some p)) where
    occurs_within : (n : ℕ) (o : Object) → Among o whole → climb (parent c.graph) n (Some o) ≡ None → IsIn o (placed_under (pointers c.graph p))
    occurs_within zero o i e = absurd (cc e)
    occurs_within (suc n) o i e = elim (held.inside o i) [
      | inl root ↦ ([], inl (ap (λ z. (z, [])) (sym (some_eq root))))
      | inr (k, at, child) ↦ elim at [
        | inl there ↦
            let up = child_parent c nest k o child in
            let z = occurs_within n k there (subst (λ z. climb (parent c.graph) n z ≡ None) up e) in
            (root_closed (pointers c.graph p) t is).closed k o z.0 z.1 child
        | inr none ↦ absurd none
      ]
    ]

    -- each complete object is under the root
    pub whole_occurs : (o : Object) → Among o whole → (q : Path) × Among (o, q) (placed_under (pointers c.graph p))
    whole_occurs o i = let n = nest.ends o in occurs_within n.0 o i n.1

    -- and so does each item
    pub item_occurs : (n : ℕ) (o : Object) → Among (n, o) items → (q : Path) × Among (o, q) (placed_under (pointers c.graph p))
    item_occurs n o i = elim (held.known n o i) [ inl there ↦ whole_occurs o there | inr none ↦ absurd none ]

  -- ---- a region
  module _ (whole : List Object) (r : Ptr Region) (rs : Regions (Op ℕ T A) (Head ℕ T A) (Brace ℕ)) (is : RegionsAre L c items (pointers_in c r) rs) (nest : Nested (children c.graph) (parent c.graph))
      (inside : (o : Object) → Among o whole → (o ≡ TheRegion r) ⊎ ((k : Object) × Among k whole × HasChild c k o)) where
    occurs_in_region : (n : ℕ) (o : Object) → Among o whole → climb (parent c.graph) n (Some o) ≡ None → IsIn o (placed_regions [] 0 (pointers_in c r))
    occurs_in_region zero o i e = absurd (cc e)
    occurs_in_region (suc n) o i e = elim (inside o i) [
      | inl root ↦ (0 ∷ [], inl (ap (λ z. (z, 0 ∷ [])) root))
      | inr (k, at, child) ↦
          let up = child_parent c nest k o child in
          let z = occurs_in_region n k at (subst (λ z. climb (parent c.graph) n z ≡ None) up e) in
          (regions_closed [] 0 (pointers_in c r) rs is).closed k o z.0 z.1 child
    ]

    -- each complete object is in the region
    pub region_whole_occurs : (o : Object) → Among o whole → (q : Path) × Among (o, q) (placed_regions [] 0 (pointers_in c r))
    region_whole_occurs o i = let n = nest.ends o in occurs_in_region n.0 o i n.1
