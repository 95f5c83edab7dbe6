-- A child was inserted among the children of an object and given that parent, in the arenas of the two kinds.
use Rattle.std.proofs.Common.{◌≡◌, ◌≢◌, ◌≤◌, ◌<◌, ◌+◌, ◌⊎◌, inl, inr, ◌++◌, ◌∷◌, ◌∙◌, ℕ, zero, suc, refl, sym, ap, subst, arith, List, [], Option, Some, None, map, take, drop, length, slice_get, option_map, Bool, false, Result, Ok, Err, OnOk, OnErr}
use Rattle.std.specs.List.{insert}
use Rattle.std.proofs.lemmas.List.{length-map}
use Rattle.std.proofs.lemmas.List.Edits.{insert_end}
use Rattle.irtext_graph.specs.declared.arena.Arena.{Arena}
use Rattle.irtext_graph.specs.declared.arena.Ptr.{Ptr}
use Rattle.irtext_graph.specs.declared.graph.Counters.{Counters}
use Rattle.irtext_graph.specs.declared.nest.Nest.{Nest}
use Rattle.irtext_graph.specs.declared.object.Operation.{Operation}
use Rattle.irtext_graph.specs.declared.object.BasicBlock.{BasicBlock}
use Rattle.irtext_graph.specs.declared.object.Region.{Region}
use Rattle.irtext_graph.specs.declared.object.Object.{Object}
use Rattle.irtext_graph.specs.declared.object.Object.TheVariants.{TheOperation, TheBlock, TheRegion}
use Rattle.irtext_graph.specs.declared.objects.Objects.{Objects}
use Rattle.irtext_graph.specs.declared.objects.OperationData.{OperationData}
use Rattle.irtext_graph.specs.declared.objects.BlockData.{BlockData}
use Rattle.irtext_graph.specs.declared.objects.RegionData.{RegionData}
use Rattle.irtext_graph.specs.Edits.{Inserts, InsertsAt}
use Rattle.irtext_graph.specs.Graph.{GraphView, graph_of, parent, children, Appends, IsNew, KeepsObjects, KeepsOlder, content}
use Rattle.irtext_graph.specs.Content.{Content.{AnOperation, ABlock, ARegion}, operation_content, block_content, region_content}
use Rattle.irtext_graph.specs.Nest.{datum, OnlyLists}
use Rattle.irtext_graph.specs.Nest as nest
use Rattle.irtext_graph.specs.Nested.{climb, Nested, Within}
use Rattle.irtext_graph.specs.Objects.{up, kids, what, Renumbers, SameAt, IsForest, eq_object, is_older}
use Rattle.irtext_graph.specs.Objects as objects
use Rattle.irtext_graph.proofs.Frames.{framed_keeps}
use Rattle.irtext_graph.proofs.Made.{same_keeps}
use Rattle.irtext_graph.proofs.Moves.{lower}
use Rattle.irtext_graph.proofs.Kept.{keeps_self}
use Rattle.irtext_graph.proofs.Nests.{Tells, same_or_other, some_eq, climb-apart, climb-same, ends-on}
use Rattle.irtext_graph.proofs.Once.{gives_rest}
use Rattle.irtext_graph.proofs.Pointers.{ptr_or}
use Rattle.irtext_graph.proofs.Same.{object_tells}
use Rattle.irtext_graph.proofs.Views.{up_seen, kids_seen, keeps_seen}

-- ---- lists

pub map-insert : {A B : Type 0} (f : A → B) (xs : List A) (i : ℕ) (x : A) → map f (insert xs i x) ≡ insert (map f xs) i (f x)
map-insert f [] zero x = refl
map-insert f [] (suc i) x = refl
map-insert f (y ∷ ys) zero x = refl
map-insert f (y ∷ ys) (suc i) x = ap (λ r. f y ∷ r) (map-insert f ys i x)

pub get-insert-low : {X : Type 0} (xs : List X) (i j : ℕ) (x : X) → j < i → i ≤ length xs → slice_get (insert xs i x) j ≡ slice_get xs j
get-insert-low xs zero j x low at = absurd (omega arith)
get-insert-low [] (suc i) j x low at = absurd (omega arith)
get-insert-low (y ∷ ys) (suc i) zero x low at = refl
get-insert-low (y ∷ ys) (suc i) (suc j) x low at = get-insert-low ys i j x (omega arith) (omega arith)

pub get-insert-here : {X : Type 0} (xs : List X) (i : ℕ) (x : X) → i ≤ length xs → slice_get (insert xs i x) i ≡ Some x
get-insert-here xs zero x at = refl
get-insert-here [] (suc i) x at = absurd (omega arith)
get-insert-here (y ∷ ys) (suc i) x at = get-insert-here ys i x (omega arith)

pub get-insert-high : {X : Type 0} (xs : List X) (i j : ℕ) (x : X) → i ≤ j → i ≤ length xs → slice_get (insert xs i x) (suc j) ≡ slice_get xs j
get-insert-high xs zero j x high at = refl
get-insert-high [] (suc i) j x high at = absurd (omega arith)
get-insert-high (y ∷ ys) (suc i) zero x high at = absurd (omega arith)
get-insert-high (y ∷ ys) (suc i) (suc j) x high at = get-insert-high ys i j x (omega arith) (omega arith)

-- ---- forests

-- the index that a child of x had before another one was inserted among those of k at i, if it has the index j now
record Was {O : Type 0} (kids : O → List O) (k : O) (i : ℕ) (x : O) (j : ℕ) (d : O) : Type 0 where
  pub m : ℕ
  pub at : slice_get (kids x) m ≡ Some d
  pub elsewhere : (x ≡ k → ⊥) → m ≡ j
  pub here : x ≡ k → ((m ≡ j) × (j < i)) ⊎ ((suc m ≡ j) × (i ≤ m))

module _ {O : Type 0} (eqO : O → O → Bool) (t : Tells eqO) where
  -- c, which had no parent, becomes the child of k with the index i
  pub record Joins (kids kids' : O → List O) (up up' : O → Option O) (k c : O) (i : ℕ) : Type 0 where
    pub free : up c ≡ None
    pub apart : Within up c k → ⊥
    pub within : i ≤ length (kids k)
    pub here : kids' k ≡ insert (kids k) i c
    pub others : (x : O) → (x ≡ k → ⊥) → kids' x ≡ kids x
    pub up_here : up' c ≡ Some k
    pub ups : (x : O) → (x ≡ c → ⊥) → up' x ≡ up x

  pub joined : {kids kids' : O → List O} {up up' : O → Option O} {k c : O} {i : ℕ} → Nested kids up → Joins kids kids' up up' k c i → Nested kids' up'
  joined {kids} {kids'} {up} {up'} {k} {c} {i} s a = record { down = down; listed = listed; once = once; ends = ends }
    where
      not_c : (x : O) (j : ℕ) (d : O) → slice_get (kids x) j ≡ Some d → d ≡ c → ⊥
      not_c x j d e here = let u = s.down x j d e in let f = a.free in let g = ap up here in cc

      low : (j : ℕ) → j < i → slice_get (kids' k) j ≡ slice_get (kids k) j
      low j l = ap (λ xs. slice_get xs j) a.here ∙ get-insert-low (kids k) i j c l a.within

      mid : slice_get (kids' k) i ≡ Some c
      mid = ap (λ xs. slice_get xs i) a.here ∙ get-insert-here (kids k) i c a.within

      high : (j : ℕ) → i ≤ j → slice_get (kids' k) (suc j) ≡ slice_get (kids k) j
      high j h = ap (λ xs. slice_get xs (suc j)) a.here ∙ get-insert-high (kids k) i j c h a.within

      was_in_k : (j : ℕ) (d : O) → slice_get (kids' k) j ≡ Some d → (Was kids k i k j d) ⊎ ((j ≡ i) × (d ≡ c))
      was_in_k j d e = elim (lower j i) [
        | inl l ↦ inl (record { m = j; at = sym (low j l) ∙ e; elsewhere = λ ne. absurd (ne refl); here = λ _. inl (refl, l) })
        | inr h ↦ after j h e
      ]
        where
          after : (j : ℕ) → i ≤ j → slice_get (kids' k) j ≡ Some d → (Was kids k i k j d) ⊎ ((j ≡ i) × (d ≡ c))
          after zero h e = let z : 0 ≡ i = omega (arith, h) in inr (z, some_eq (sym e ∙ ap (slice_get (kids' k)) z ∙ mid))
          after (suc j) h e = elim (lower j i) [
            | inl l ↦ let z : suc j ≡ i = omega (arith, h, l) in inr (z, some_eq (sym e ∙ ap (slice_get (kids' k)) z ∙ mid))
            | inr g ↦ inl (record { m = j; at = sym (high j g) ∙ e; elsewhere = λ ne. absurd (ne refl); here = λ _. inr (refl, g) })
          ]

      was : (x : O) (j : ℕ) (d : O) → slice_get (kids' x) j ≡ Some d → (Was kids k i x j d) ⊎ ((x ≡ k) × (j ≡ i) × (d ≡ c))
      was x j d e = elim (same_or_other t x k) [
        | inr ne ↦ inl (record { m = j; at = rw (a.others x ne) at e; elsewhere = λ _. refl; here = λ p. absurd (ne p) })
        | inl p ↦ elim (was_in_k j d (rw p at e)) [
          | inl w ↦ inl (subst (λ y. Was kids k i y j d) (sym p) w)
          | inr z ↦ inr (p, z.0, z.1)
        ]
      ]

      down : (x : O) (j : ℕ) (d : O) → slice_get (kids' x) j ≡ Some d → up' d ≡ Some x
      down x j d e = elim (was x j d e) [
        | inl w ↦ a.ups d (not_c x w.m d w.at) ∙ s.down x w.m d w.at
        | inr z ↦ ap up' z.2 ∙ a.up_here ∙ ap Some (sym z.0)
      ]

      still : (m : ℕ) (d : O) → slice_get (kids k) m ≡ Some d → (j : ℕ) × (slice_get (kids' k) j ≡ Some d)
      still m d e = elim (lower m i) [
        | inl l ↦ (m, low m l ∙ e)
        | inr h ↦ (suc m, high m h ∙ e)
      ]

      listed : (d x : O) → up' d ≡ Some x → (j : ℕ) × (slice_get (kids' x) j ≡ Some d)
      listed d x e = elim (same_or_other t d c) [
        | inl p ↦
            let kx : k ≡ x = some_eq (sym a.up_here ∙ ap up' (sym p) ∙ e) in
            (i, ap (λ y. slice_get (kids' y) i) (sym kx) ∙ mid ∙ ap Some (sym p))
        | inr ne ↦
            let old = s.listed d x (sym (a.ups d ne) ∙ e) in
            elim (same_or_other t x k) [
              | inr nk ↦ (old.0, rw (a.others x nk) old.1)
              | inl p ↦
                  let f = still old.0 d (ap (λ y. slice_get (kids y) old.0) (sym p) ∙ old.1) in
                  (f.0, ap (λ y. slice_get (kids' y) f.0) p ∙ f.1)
            ]
      ]

      once : (x : O) (j l : ℕ) (d : O) → slice_get (kids' x) j ≡ Some d → slice_get (kids' x) l ≡ Some d → j ≡ l
      once x j l d e f = elim (was x j d e) [
        | inl w ↦ elim (was x l d f) [
          | inl v ↦ same w v
          | inr z ↦ absurd (not_c x w.m d w.at z.2)
        ]
        | inr y ↦ elim (was x l d f) [
          | inl v ↦ absurd (not_c x v.m d v.at y.2)
          | inr z ↦ y.1 ∙ sym z.1
        ]
      ]
        where
          same : Was kids k i x j d → Was kids k i x l d → j ≡ l
          same w v =
              let at = s.once x w.m v.m d w.at v.at in
              elim (same_or_other t x k) [
                | inr ne ↦ let m = w.elsewhere ne in let n = v.elsewhere ne in omega (arith, at, m, n)
                | inl p ↦ elim (w.here p) [
                  | inl m ↦ elim (v.here p) [
                    | inl n ↦ omega (arith, at, m.0, n.0)
                    | inr n ↦ omega (arith, at, m.0, m.1, n.0, n.1)
                  ]
                  | inr m ↦ elim (v.here p) [
                    | inl n ↦ omega (arith, at, m.0, m.1, n.0, n.1)
                    | inr n ↦ omega (arith, at, m.0, n.0)
                  ]
                ]
              ]

      ends : (x : O) → (n : ℕ) × (climb up' n (Some x) ≡ None)
      ends x =
          let n = s.ends k in
          let way : climb up' n.0 (Some k) ≡ climb up n.0 (Some k) = climb-apart eqO t up up' c a.ups n.0 (Some k) (λ m low e. a.apart (m, e)) in
          let from_c : climb up' (suc n.0) (Some c) ≡ None = ap (climb up' n.0) a.up_here ∙ way ∙ n.1 in
          let e = s.ends x in
          ends-on eqO t up up' c a.ups (suc n.0) from_c e.0 (Some x) e.1

-- ---- arenas

-- a child was inserted among those of what a pointer refers to, and all else of the arena is unchanged
pub record HoldsAt {P C D K : Type 0} (old new : Arena (Nest P C D)) (p : Ptr K) (i : ℕ) (c : Ptr C) : Type 0 where
  pub here : nest.kids new p ≡ insert (nest.kids old p) i c
  pub only : OnlyLists old new p

-- what a pointer refers to was given a parent, and all else of the arena is unchanged
pub record Stands {P C D K : Type 0} (old new : Arena (Nest P C D)) (p : Ptr K) (parent : Ptr P) : Type 0 where
  pub here : nest.up new p ≡ Some parent
  pub others : (q : Ptr K) → q ≢ p → nest.up new q ≡ nest.up old q
  pub lists : (q : Ptr K) → nest.kids new q ≡ nest.kids old q
  pub all_data : (q : Ptr K) → datum new q ≡ datum old q

-- one arena: only the objects of `holder` may have other children, and only those of `child` another parent
record Side {P C D K : Type 0} (the : Ptr K → Object) (holder child : Object → Type 0) (old new : Arena (Nest P C D)) : Type 0 where
  pub kids : (q : Ptr K) → (holder (the q) → ⊥) → nest.kids new q ≡ nest.kids old q
  pub ups : (q : Ptr K) → (child (the q) → ⊥) → nest.up new q ≡ nest.up old q
  pub all_data : (q : Ptr K) → datum new q ≡ datum old q

module _ {P C D K : Type 0} {the : Ptr K → Object} {holder child : Object → Type 0} {old : Arena (Nest P C D)} where
  unchanged : Side the holder child old old
  unchanged = record { kids = λ q ne. refl; ups = λ q ne. refl; all_data = λ q. refl }

  of_holder : {new : Arena (Nest P C D)} (p : Ptr K) → holder (the p) → OnlyLists old new p → Side the holder child old new
  of_holder p mine o = record { kids = λ q ne. o.others q (λ e. ne (rw e mine)); ups = λ q ne. o.ups q; all_data = o.all_data }

  of_child : {new : Arena (Nest P C D)} {parent : Ptr P} (p : Ptr K) → child (the p) → Stands old new p parent → Side the holder child old new
  of_child p mine s = record { kids = λ q ne. s.lists q; ups = λ q ne. s.others q (λ e. ne (rw e mine)); all_data = s.all_data }

  -- an object has as many children as before
  of_none : {new : Arena (Nest P C D)} (p : Ptr K) → nest.kids new p ≡ nest.kids old p → OnlyLists old new p → Side the holder child old new
  of_none {new} p here o = record { kids = λ q ne. go q (ptr_or q p); ups = λ q ne. o.ups q; all_data = o.all_data }
    where
      go : (q : Ptr K) → (q ≡ p) ⊎ (q ≢ p) → nest.kids new q ≡ nest.kids old q
      go q (inl e) = ap (λ k. nest.kids new k) e ∙ here ∙ sym (ap (λ k. nest.kids old k) e)
      go q (inr ne) = o.others q ne

module _ {O B T : Type 0} (x : Objects O B T) where
  -- all three arenas
  record Sides (y : Objects O B T) (holder child : Object → Type 0) : Type 0 where
    pub operations : Side TheOperation holder child x.operations y.operations
    pub blocks : Side TheBlock holder child x.blocks y.blocks
    pub regions : Side TheRegion holder child x.regions y.regions

  module _ (y : Objects O B T) {holder child : Object → Type 0} (s : Sides y holder child) where
    all_kids : (o : Object) → (holder o → ⊥) → kids y o ≡ kids x o
    all_kids (TheOperation q) ne = ap (map TheRegion) (s.operations.kids q ne)
    all_kids (TheBlock q) ne = ap (map TheOperation) (s.blocks.kids q ne)
    all_kids (TheRegion q) ne = ap (map TheBlock) (s.regions.kids q ne)

    all_ups : (o : Object) → (child o → ⊥) → up y o ≡ up x o
    all_ups (TheOperation q) ne = ap (option_map TheBlock) (s.operations.ups q ne)
    all_ups (TheBlock q) ne = ap (option_map TheRegion) (s.blocks.ups q ne)
    all_ups (TheRegion q) ne = ap (option_map TheOperation) (s.regions.ups q ne)

    all_whats : (o : Object) → what y o ≡ what x o
    all_whats (TheOperation q) = ap (option_map (λ d. AnOperation d.0 (operation_content d.1))) (s.operations.all_data q)
    all_whats (TheBlock q) = ap (option_map (λ d. ABlock d.0 (block_content d.1))) (s.blocks.all_data q)
    all_whats (TheRegion q) = ap (option_map (λ d. ARegion d.0 (region_content d.1))) (s.regions.all_data q)

  untouched : (y : Objects O B T) → Sides y (λ o. ⊥) (λ o. ⊥) → (o : Object) → SameAt x y o
  untouched y s o = record { same_up = all_ups y s o (λ f. f); same_kids = all_kids y s o (λ f. f); same_what = all_whats y s o }

  inserted : (y : Objects O B T) (k c : Object) (i : ℕ) → Sides y (λ o. o ≡ k) (λ o. o ≡ c) → kids y k ≡ insert (kids x k) i c → up y c ≡ Some k → Inserts x y k i c
  inserted y k c i s here up_here = record { here = here; others = all_kids y s; up_here = up_here; ups = all_ups y s; whats = all_whats y s }

  -- a region of an operation
  pub region_inserted : (holders : Arena (Nest BasicBlock Region (OperationData O T))) (children : Arena (Nest Operation BasicBlock RegionData)) (p : Ptr Operation) (i : ℕ) (r : Ptr Region) → HoldsAt x.operations holders p i r → Stands x.regions children r p
      → (k c : Object) → k ≡ TheOperation p → c ≡ TheRegion r → Inserts x (record x { operations = holders; regions = children }) k i c
  region_inserted holders children p i r h s k c e f = rw (e, f) (inserted (record x { operations = holders; regions = children }) (TheOperation p) (TheRegion r) i
      (record { operations = of_holder p refl h.only; blocks = unchanged; regions = of_child r refl s })
      (ap (map TheRegion) h.here ∙ map-insert TheRegion (nest.kids x.operations p) i r) (ap (option_map TheOperation) s.here))

  -- a block of a region
  pub block_inserted : (holders : Arena (Nest Operation BasicBlock RegionData)) (children : Arena (Nest Region Operation (BlockData B T))) (p : Ptr Region) (i : ℕ) (r : Ptr BasicBlock) → HoldsAt x.regions holders p i r → Stands x.blocks children r p
      → (k c : Object) → k ≡ TheRegion p → c ≡ TheBlock r → Inserts x (record x { regions = holders; blocks = children }) k i c
  block_inserted holders children p i r h s k c e f = rw (e, f) (inserted (record x { regions = holders; blocks = children }) (TheRegion p) (TheBlock r) i
      (record { operations = unchanged; blocks = of_child r refl s; regions = of_holder p refl h.only })
      (ap (map TheBlock) h.here ∙ map-insert TheBlock (nest.kids x.regions p) i r) (ap (option_map TheRegion) s.here))

  -- an operation of a block
  pub operation_inserted : (holders : Arena (Nest Region Operation (BlockData B T))) (children : Arena (Nest BasicBlock Region (OperationData O T))) (p : Ptr BasicBlock) (i : ℕ) (r : Ptr Operation) → HoldsAt x.blocks holders p i r → Stands x.operations children r p
      → (k c : Object) → k ≡ TheBlock p → c ≡ TheOperation r → Inserts x (record x { blocks = holders; operations = children }) k i c
  operation_inserted holders children p i r h s k c e f = rw (e, f) (inserted (record x { blocks = holders; operations = children }) (TheBlock p) (TheOperation r) i
      (record { operations = of_child r refl s; blocks = of_holder p refl h.only; regions = unchanged })
      (ap (map TheOperation) h.here ∙ map-insert TheOperation (nest.kids x.blocks p) i r) (ap (option_map TheBlock) s.here))

within_mapped : {X Y : Type 0} (f : X → Y) (xs : List X) (i : ℕ) → i ≤ length (map f xs) → i ≤ length xs
within_mapped f xs i h = omega (arith, h, length-map xs f)

-- an index up to the number of children of an object is one for the list in the object's arena
module _ {O B T : Type 0} (x : Objects O B T) (o : Object) (i : ℕ) (h : i ≤ length (kids x o)) where
  pub operation_within : (p : Ptr Operation) → o ≡ TheOperation p → i ≤ length (nest.kids x.operations p)
  operation_within p is = within_mapped TheRegion (nest.kids x.operations p) i (subst (λ q. i ≤ length (kids x q)) is h)

  pub block_within : (p : Ptr BasicBlock) → o ≡ TheBlock p → i ≤ length (nest.kids x.blocks p)
  block_within p is = within_mapped TheOperation (nest.kids x.blocks p) i (subst (λ q. i ≤ length (kids x q)) is h)

  pub region_within : (p : Ptr Region) → o ≡ TheRegion p → i ≤ length (nest.kids x.regions p)
  region_within p is = within_mapped TheBlock (nest.kids x.regions p) i (subst (λ q. i ≤ length (kids x q)) is h)

-- ---- room

module _ {O B T : Type 0} (x : Objects O B T) where
  -- an operation has room for one more region
  pub operation_roomy : (a : Arena (Nest BasicBlock Region (OperationData O T))) (p : Ptr Operation) → nest.kids a p ≡ nest.kids x.operations p → OnlyLists x.operations a p → nest.links a ≡ nest.links x.operations → Renumbers x (record x { operations = a })
  operation_roomy a p here o l = record {
    at = λ q. let s : Sides x (record x { operations = a }) (λ o. ⊥) (λ o. ⊥) = record { operations = of_none p here o; blocks = unchanged; regions = unchanged } in untouched x (record x { operations = a }) s q;
    as_many = omega (arith, l);
    places = record { operation_places = o.places; block_places = keeps_self x.blocks; region_places = keeps_self x.regions };
    all_data = record { operation_data = o.all_data; block_data = λ p. refl };
  }

  -- a block has room for one more operation
  pub block_roomy : (a : Arena (Nest Region Operation (BlockData B T))) (p : Ptr BasicBlock) → nest.kids a p ≡ nest.kids x.blocks p → OnlyLists x.blocks a p → nest.links a ≡ nest.links x.blocks → Renumbers x (record x { blocks = a })
  block_roomy a p here o l = record {
    at = λ q. let s : Sides x (record x { blocks = a }) (λ o. ⊥) (λ o. ⊥) = record { operations = unchanged; blocks = of_none p here o; regions = unchanged } in untouched x (record x { blocks = a }) s q;
    as_many = omega (arith, l);
    places = record { operation_places = keeps_self x.operations; block_places = o.places; region_places = keeps_self x.regions };
    all_data = record { operation_data = λ p. refl; block_data = o.all_data };
  }

  -- a region has room for one more block
  pub region_roomy : (a : Arena (Nest Operation BasicBlock RegionData)) (p : Ptr Region) → nest.kids a p ≡ nest.kids x.regions p → OnlyLists x.regions a p → nest.links a ≡ nest.links x.regions → Renumbers x (record x { regions = a })
  region_roomy a p here o l = record {
    at = λ q. let s : Sides x (record x { regions = a }) (λ o. ⊥) (λ o. ⊥) = record { operations = unchanged; blocks = unchanged; regions = of_none p here o } in untouched x (record x { regions = a }) s q;
    as_many = omega (arith, l);
    places = record { operation_places = keeps_self x.operations; block_places = keeps_self x.blocks; region_places = o.places };
    all_data = record { operation_data = λ p. refl; block_data = λ p. refl };
  }

-- ---- forests of objects

module _ {O B T : Type 0} where
  pub inserts_then : {x y z : Objects O B T} {k c : Object} {i : ℕ} → Inserts x y k i c → Renumbers y z → Inserts x z k i c
  inserts_then {k = k} {c = c} a h = record {
    here = (h.at k).same_kids ∙ a.here;
    others = λ q n. (h.at q).same_kids ∙ a.others q n;
    up_here = (h.at c).same_up ∙ a.up_here;
    ups = λ q n. (h.at q).same_up ∙ a.ups q n;
    whats = λ q. (h.at q).same_what ∙ a.whats q;
  }

  pub then_inserts : {x y z : Objects O B T} {k c : Object} {i : ℕ} → Renumbers x y → Inserts y z k i c → Inserts x z k i c
  then_inserts {k = k} {c = c} {i = i} h a = record {
    here = a.here ∙ ap (λ xs. insert xs i c) (h.at k).same_kids;
    others = λ q n. a.others q n ∙ (h.at q).same_kids;
    up_here = a.up_here;
    ups = λ q n. a.ups q n ∙ (h.at q).same_up;
    whats = λ q. a.whats q ∙ (h.at q).same_what;
  }

  pub inserted_forest : (x y : Objects O B T) (k c : Object) (i : ℕ) → IsForest x → objects.CanInsert x k c → i ≤ length (kids x k) → Inserts x y k i c → IsForest y
  inserted_forest x y k c i forest can within a = joined eq_object object_tells forest (record {
    free = can.free;
    apart = can.apart;
    within = within;
    here = a.here;
    others = a.others;
    up_here = a.up_here;
    ups = a.ups;
  })

  -- what is within an object in a forest where all is unchanged
  pub still_within : (x y : Objects O B T) (o q : Object) → Renumbers x y → Within (up y) o q → Within (up x) o q
  still_within x y o q h w = (w.0, sym (climb-same (up x) (up y) (λ a. (h.at a).same_up) w.0 (Some q)) ∙ w.1)

  pub still_can : (x y : Objects O B T) (k c : Object) → Renumbers x y → objects.CanInsert x k c → objects.CanInsert y k c
  still_can x y k c h can = record { free = (h.at c).same_up ∙ can.free; apart = λ w. can.apart (still_within x y c k h w) }

-- ---- what is seen

module _ {O B T : Type 0} where
  pub inserted_what : (x y : Objects O B T) (k c : Object) (i : ℕ) {E : Type 0} (r : Result (Unit {0}) E) → OnOk r (Inserts x y k i c) → OnErr r ((q : Object) → SameAt x y q) → (q : Object) → what y q ≡ what x q
  inserted_what x y k c i (Ok u) a s q = a.whats q
  inserted_what x y k c i (Err e) a s q = (s q).same_what

  pub inserts_seen : (m : ℕ) (v : Counters) (x y : Objects O B T) (k c : Object) (i : ℕ) {E : Type 0} (r : Result (Unit {0}) E) → objects.SamePlaces x y → OnOk r (Inserts x y k i c) → OnOk r (InsertsAt (graph_of m v x) (graph_of m v y) k i c)
  inserts_seen m v x y k c i (Err e) p a = a
  inserts_seen m v x y k c i (Ok u) p a = record {
    here = kids_seen m v y k ∙ a.here ∙ ap (λ xs. insert xs i c) (sym (kids_seen m v x k));
    others = λ o ne. kids_seen m v y o ∙ a.others o ne ∙ sym (kids_seen m v x o);
    parent_here = up_seen m v y c ∙ a.up_here;
    parents = λ o ne. up_seen m v y o ∙ a.ups o ne ∙ sym (up_seen m v x o);
    objects = keeps_seen m v x y a.whats p;
  }

  -- only the children of k and the parent of c may differ
  beside_keeps : (m : ℕ) (g h : GraphView O B T) (k c : Object) → IsNew m g k → IsNew m g c → KeepsObjects g h → ((q : Object) → q ≢ c → parent h q ≡ parent g q) → ((q : Object) → q ≢ k → children h q ≡ children g q) → KeepsOlder m g h
  beside_keeps m g h k c nk nc objects parents others = framed_keeps m g h (record {
    contents = objects.contents;
    same = λ q. elim (same_or_other object_tells q k) [
      | inl e ↦ inl (ap (λ q. is_older m (content g q)) e ∙ nk)
      | inr away ↦ elim (same_or_other object_tells q c) [
        | inl e ↦ inl (ap (λ q. is_older m (content g q)) e ∙ nc)
        | inr apart ↦ inr (parents q apart, others q away)
      ]
    ];
  }) (let e = objects.rest.made in omega (arith, e)) (let e = objects.rest.values in omega (arith, e)) objects.rest.first_place (gives_rest g h objects.rest (λ q e. objects.contents q ∙ e))

  pub inserts_keeps : (m : ℕ) (g h : GraphView O B T) (k c : Object) (i : ℕ) → IsNew m g k → IsNew m g c → {E : Type 0} (r : Result (Unit {0}) E) → OnOk r (InsertsAt g h k i c) → OnErr r (h ≡ g) → KeepsOlder m g h
  inserts_keeps m g h k c i nk nc (Err x) a e = same_keeps m g h e
  inserts_keeps m g h k c i nk nc (Ok u) a e = beside_keeps m g h k c nk nc a.objects a.parents a.others

  -- an insertion behind the last child appends
  pub inserts_last : (g h : GraphView O B T) (k c : Object) (i : ℕ) → i ≡ length (children g k) → {E : Type 0} (r : Result (Unit {0}) E) → OnOk r (InsertsAt g h k i c) → OnOk r (Appends g h k c)
  inserts_last g h k c i last (Err x) a = a
  inserts_last g h k c i last (Ok u) a = record {
    here = a.here ∙ ap (λ n. insert (children g k) n c) last ∙ insert_end (children g k) c;
    others = a.others;
    parent_here = a.parent_here;
    parents = a.parents;
    objects = a.objects;
  }

  pub appends_keeps : (m : ℕ) (g h : GraphView O B T) (k c : Object) → IsNew m g k → IsNew m g c → {E : Type 0} (r : Result (Unit {0}) E) → OnOk r (Appends g h k c) → OnErr r (h ≡ g) → KeepsOlder m g h
  appends_keeps m g h k c nk nc (Err x) a e = same_keeps m g h e
  appends_keeps m g h k c nk nc (Ok u) a e = beside_keeps m g h k c nk nc a.objects a.parents a.others
