-- Each object under an operation of a context is there at one place, and at most one definition is at a place.
use Rattle.std.proofs.Common.{◌≡◌, ◌∙◌, ◌⊎◌, ◌+◌, ℕ, zero, suc, Bool, true, false, cond, List, [], ◌∷◌, ◌++◌, length, map, Option, Some, None, option_map, slice_get, refl, sym, ap, ap₂, subst, inl, inr, arith}
use Rattle.irtext_graph.specs.declared.arena.Ptr.{Ptr}
use Rattle.irtext_graph.specs.declared.object.Operation.{Operation}
use Rattle.irtext_graph.specs.declared.object.BasicBlock.{BasicBlock}
use Rattle.irtext_graph.specs.declared.object.Region.{Region}
use Rattle.irtext_graph.specs.declared.object.Object.{Object}
use Rattle.irtext_graph.specs.declared.object.Object.TheVariants.{TheOperation, TheBlock, TheRegion}
use Rattle.irtext_graph.specs.declared.object.Value.{Value}
use Rattle.irtext_graph.specs.declared.object.Value.TheVariants.{Result, Argument}
use Rattle.irtext_graph.specs.Chained.{Among}
use Rattle.irtext_graph.specs.Graph.{GraphView, children, parent}
use Rattle.irtext_graph.specs.Nested.{climb, Nested}
use Rattle.irtext_graph.specs.Objects.{eq_object}
use Rattle.irtext_graph.specs.Parts.{regions, blocks, operations_in}
use Rattle.irtext_graph.proofs.Nests.{some_eq}
use Rattle.irtext_graph.proofs.Preorders.{among_left, among_right}
use Rattle.irtext_graph.proofs.Same.{object_tells}
use Rattle.irtext_grammar.specs.Contexts.Nested.{operations_by, blocks_by, regions_by, within, pointers}
use Rattle.irtext_grammar.specs.Names.Script.{Path, Place, result, argument, block_at}
use Rattle.irtext_grammar.proofs.Kin.{not_above}
use Rattle.irtext_names.proofs.Linked.Moving.{among_split}
use Rattle.irtext_names.specs.Held.{PtrRegions, placed_regions, placed_blocks, placed_operations, placed_under, path_of, value_place, block_place}
use Rattle.irtext_names.proofs.Equal.{get_map}
use Rattle.irtext_names.proofs.Paths.{once_under, path_found}

head_same : (j k : ℕ) (p q : Path) → ◌≡◌ {A = Path} (j ∷ p) (k ∷ q) → j ≡ k
head_same j k p q e = cc

tail_same : (j k : ℕ) (p q : Path) → ◌≡◌ {A = Path} (j ∷ p) (k ∷ q) → p ≡ q
tail_same j k p q e = cc

not_nothing : (k : ℕ) (p : Path) → ◌≡◌ {A = Path} (k ∷ p) [] → ⊥
not_nothing k p e = cc

-- a path that is found is that of an object in the list
pub path_there : (all : List (Object × Path)) (o : Object) (q : Path) → path_of all o ≡ Some q → Among (o, q) all
path_there [] o q e = absurd (cc)
path_there (x ∷ xs) o q e = go (path_there xs o q) (eq_object x.0 o) refl e
  where
    go : (path_of xs o ≡ Some q → Among (o, q) xs) → (b : Bool) → eq_object x.0 o ≡ b → cond b (Some x.1) (path_of xs o) ≡ Some q → Among (o, q) (x ∷ xs)
    go later true s f = subst (λ z. Among z (x ∷ xs)) (λ i. (object_tells.sound x.0 o s i, some_eq f i)) (inl refl)
    go later false s f = inr (later f)

module _ {O B T : Type 0} (g : GraphView O B T) (nest : Nested (children g) (parent g)) where
  abbrev Children : Object → List Object
  Children k = children g k

  -- each of these objects is a child of the object at the rest of its path: of the parent of them all, or of another one of them
  record Stems (h : Object) (p : Path) (xs : List (Object × Path)) : Type 0 where
    each : (o : Object) (r : Path) → Among (o, r) xs → (k : ℕ) × (s : Path) × (m : Object) × (r ≡ k ∷ s) × ((◌≡◌ {A = Object × Path} (m, s) (h, p)) ⊎ Among (m, s) xs) × (slice_get (Children m) k ≡ Some o)

  stems_none : (h : Object) (p : Path) → Stems h p []
  stems_none h p = record { each = λ o r i. absurd i }

  module _ (o h : Object) (p : Path) (j : ℕ) (inner next : List (Object × Path)) (child : slice_get (Children h) j ≡ Some o) (below : Stems o (j ∷ p) inner) (beside : Stems h p next) where
    abbrev node : List (Object × Path)
    node = (o, j ∷ p) ∷ (inner ++ next)

    abbrev Found : Object → Path → Type 0
    Found x r = (k : ℕ) × (s : Path) × (m : Object) × (r ≡ k ∷ s) × ((◌≡◌ {A = Object × Path} (m, s) (h, p)) ⊎ Among (m, s) node) × (slice_get (Children m) k ≡ Some x)

    stem_here : (x : Object) (r : Path) → ◌≡◌ {A = Object × Path} (x, r) (o, j ∷ p) → Found x r
    stem_here x r e = (j, p, h, ap (λ z. z.1) e, inl refl, child ∙ ap Some (sym (ap (λ z. z.0) e)))

    stem_below : (x : Object) (r : Path) → Among (x, r) inner → Found x r
    stem_below x r a =
        let b = below.each x r a in
        (b.0, b.1, b.2, b.3, elim b.4 [ inl e ↦ inr (inl e) | inr i ↦ inr (inr (among_left (b.2, b.1) inner next i)) ], b.5)

    stem_beside : (x : Object) (r : Path) → Among (x, r) next → Found x r
    stem_beside x r a =
        let b = beside.each x r a in
        (b.0, b.1, b.2, b.3, elim b.4 [ inl e ↦ inl e | inr i ↦ inr (inr (among_right (b.2, b.1) inner next i)) ], b.5)

    stems_node : Stems h p node
    stems_node = record { each = go }
      where
        go : (x : Object) (r : Path) → Among (x, r) node → Found x r
        go x r (inl e) = stem_here x r e
        go x r (inr i) = elim (among_split (x, r) inner next i) [ inl a ↦ stem_below x r a | inr a ↦ stem_beside x r a ]

  -- the first of these children, the later ones, and all, each under the number that it is counted under
  first_child : (h x : Object) (j : ℕ) → slice_get (Children h) (j + 0) ≡ Some x → slice_get (Children h) j ≡ Some x
  first_child h x j e = let z : j + 0 ≡ j = omega arith in subst (λ (n : ℕ). slice_get (Children h) n ≡ Some x) z e

  later_child : (h x : Object) (i j : ℕ) → slice_get (Children h) (j + suc i) ≡ Some x → slice_get (Children h) (suc j + i) ≡ Some x
  later_child h x i j e = let n : j + suc i ≡ suc j + i = omega arith in subst (λ (k : ℕ). slice_get (Children h) k ≡ Some x) n e

  each_child : {K : Type 0} (make : Ptr K → Object) (h : Object) (ps : List (Ptr K)) → Children h ≡ map make ps → (i : ℕ) (p : Ptr K) → slice_get ps i ≡ Some p → slice_get (Children h) (0 + i) ≡ Some (make p)
  each_child make h ps are i p e = let z : i ≡ 0 + i = omega arith in subst (λ (n : ℕ). slice_get (Children h) n ≡ Some (make p)) z (ap (λ os. slice_get os i) are ∙ (get_map make ps i ∙ ap (option_map make) e))

  module _ (inside : Ptr Operation → PtrRegions) (deeper : (q : Ptr Operation) (r : Path) → Stems (TheOperation q) r (placed_regions r 0 (inside q))) where
    operations_stem : (b : Ptr BasicBlock) (p : Path) (j : ℕ) (os : List (Ptr Operation)) → ((i : ℕ) (o : Ptr Operation) → slice_get os i ≡ Some o → slice_get (Children (TheBlock b)) (j + i) ≡ Some (TheOperation o)) → Stems (TheBlock b) p (placed_operations p j (operations_by g inside os))
    operations_stem b p j [] at = stems_none (TheBlock b) p
    operations_stem b p j (o ∷ os) at = stems_node (TheOperation o) (TheBlock b) p j (placed_regions (j ∷ p) 0 (inside o)) (placed_operations p (suc j) (operations_by g inside os)) (first_child (TheBlock b) (TheOperation o) j (at 0 o refl))
        (deeper o (j ∷ p)) (operations_stem b p (suc j) os (λ i x e. later_child (TheBlock b) (TheOperation x) i j (at (suc i) x e)))

    blocks_stem : (r : Ptr Region) (p : Path) (j : ℕ) (bs : List (Ptr BasicBlock)) → ((i : ℕ) (b : Ptr BasicBlock) → slice_get bs i ≡ Some b → slice_get (Children (TheRegion r)) (j + i) ≡ Some (TheBlock b)) → Stems (TheRegion r) p (placed_blocks p j (blocks_by g inside bs))
    blocks_stem r p j [] at = stems_none (TheRegion r) p
    blocks_stem r p j (b ∷ bs) at =
        stems_node (TheBlock b) (TheRegion r) p j (placed_operations (j ∷ p) 0 (operations_by g inside (operations_in g b))) (placed_blocks p (suc j) (blocks_by g inside bs)) (first_child (TheRegion r) (TheBlock b) j (at 0 b refl))
        (operations_stem b (j ∷ p) 0 (operations_in g b) (each_child TheOperation (TheBlock b) (operations_in g b) refl)) (blocks_stem r p (suc j) bs (λ i x e. later_child (TheRegion r) (TheBlock x) i j (at (suc i) x e)))

    regions_stem : (q : Ptr Operation) (p : Path) (j : ℕ) (rs : List (Ptr Region)) → ((i : ℕ) (r : Ptr Region) → slice_get rs i ≡ Some r → slice_get (Children (TheOperation q)) (j + i) ≡ Some (TheRegion r)) → Stems (TheOperation q) p (placed_regions p j (regions_by g inside rs))
    regions_stem q p j [] at = stems_none (TheOperation q) p
    regions_stem q p j (r ∷ rs) at =
        stems_node (TheRegion r) (TheOperation q) p j (placed_blocks (j ∷ p) 0 (blocks_by g inside (blocks g r))) (placed_regions p (suc j) (regions_by g inside rs)) (first_child (TheOperation q) (TheRegion r) j (at 0 r refl))
        (blocks_stem r (j ∷ p) 0 (blocks g r) (each_child TheBlock (TheRegion r) (blocks g r) refl)) (regions_stem q p (suc j) rs (λ i x e. later_child (TheOperation q) (TheRegion x) i j (at (suc i) x e)))

  within_stem : (n : ℕ) (q : Ptr Operation) (r : Path) → Stems (TheOperation q) r (placed_regions r 0 (within g n q))
  within_stem zero q r = stems_none (TheOperation q) r
  within_stem (suc n) q r = regions_stem (within g n) (within_stem n) q r 0 (regions g q) (each_child TheRegion (TheOperation q) (regions g q) refl)

  module _ (p : Ptr Operation) where
    abbrev all : List (Object × Path)
    all = placed_under (pointers g p)

    abbrev inner : List (Object × Path)
    inner = placed_regions [] 0 (pointers g p).regions

    stems : Stems (TheOperation p) [] inner
    stems = within_stem (suc (length g.operations.cells)) p []

    -- what has the empty path is the root
    at_root : (o : Object) → Among (o, []) all → o ≡ TheOperation p
    at_root o (inl e) = ap (λ z. z.0) e
    at_root o (inr i) = let x = stems.each o [] i in absurd (not_nothing x.0 x.1 (sym x.3))

    -- the object at the rest of an object's path is its parent
    held_by : (o : Object) (k : ℕ) (s : Path) → Among (o, k ∷ s) all → (m : Object) × Among (m, s) all × (slice_get (Children m) k ≡ Some o)
    held_by o k s (inl e) = absurd (not_nothing k s (ap (λ z. z.1) e))
    held_by o k s (inr i) =
        let x = stems.each o (k ∷ s) i in
        let first = head_same k x.0 s x.1 x.3 in
        let rest = tail_same k x.0 s x.1 x.3 in
        (x.2, subst (λ (r : Path). Among (x.2, r) all) (sym rest) x.4, subst (λ (n : ℕ). slice_get (Children x.2) n ≡ Some o) (sym first) x.5)

    climbs : (q : Path) (o : Object) → Among (o, q) all → climb (parent g) (length q) (Some o) ≡ Some (TheOperation p)
    climbs [] o a = ap Some (at_root o a)
    climbs (k ∷ s) o a = let h = held_by o k s a in ap (climb (parent g) (length s)) (nest.down h.0 k o h.2) ∙ climbs s h.0 h.1

    root_alone : (o : Object) (k : ℕ) (s : Path) → Among (o, []) all → Among (o, k ∷ s) all → ⊥
    root_alone o k s a b = let h = held_by o k s b in not_above nest h.0 o (nest.down h.0 k o h.2) (length s, climbs s h.0 h.1 ∙ ap Some (sym (at_root o a)))

    -- each object has one path
    one_path : (q r : Path) (o : Object) → Among (o, q) all → Among (o, r) all → q ≡ r
    one_path [] [] o a b = refl
    one_path [] (k ∷ s) o a b = absurd (root_alone o k s a b)
    one_path (k ∷ s) [] o a b = absurd (root_alone o k s b a)
    one_path (k ∷ s) (l ∷ t) o a b =
        let h = held_by o k s a in
        let i = held_by o l t b in
        let same : i.0 ≡ h.0 = some_eq (sym (nest.down i.0 l o i.2) ∙ nest.down h.0 k o h.2) in
        let rest = one_path s t h.0 h.1 (subst (λ m. Among (m, t) all) same i.1) in
        let first = nest.once h.0 k l o h.2 (subst (λ m. slice_get (Children m) l ≡ Some o) same i.2) in
        ap₂ (λ (n : ℕ) (u : Path). n ∷ u) first rest

    -- the path of an object in the list is found
    pub path_is : (o : Object) (q : Path) → Among (o, q) all → path_of all o ≡ Some q
    path_is o q a = let x = path_found all o q a in x.1 ∙ ap Some (one_path x.0 q o x.2 a)

    abbrev one : (o k : Object) (q : Path) → Among (o, q) all → Among (k, q) all → o ≡ k
    one = (once_under (pointers g p)).one

    -- what is found at one path is one object
    same_found : (o k : Object) (q : Path) → path_of all o ≡ Some q → path_of all k ≡ Some q → o ≡ k
    same_found o k q e f = one o k q (path_there all o q e) (path_there all k q f)

    op_same : (a b : Ptr Operation) → TheOperation a ≡ TheOperation b → a ≡ b
    op_same a b e = cc

    bl_same : (a b : Ptr BasicBlock) → TheBlock a ≡ TheBlock b → a ≡ b
    bl_same a b e = cc

    -- two kinds of places have no place in common
    never_both : (make other : Path → Place) → ((x y : Path) → make x ≡ other y → ⊥) → (q : Place) (x y : Option Path) → option_map make x ≡ Some q → option_map other y ≡ Some q → ⊥
    never_both make other apart q None y e f = cc
    never_both make other apart q (Some x) None e f = cc
    never_both make other apart q (Some x) (Some y) e f = apart x y (some_eq e ∙ sym (some_eq f))

    -- an object and a number of one place are one object and one number
    same_owner : (make : Path → ℕ → Place) → ((x y : Path) (i j : ℕ) → make x i ≡ make y j → (x ≡ y) × (i ≡ j)) → (o k : Object) (i j : ℕ) (q : Place) → option_map (λ r. make r i) (path_of all o) ≡ Some q → option_map (λ r. make r j) (path_of all k) ≡ Some q
        → (o ≡ k) × (i ≡ j)
    same_owner make alike o k i j q e f = go (path_of all o) refl (path_of all k) refl e f
      where
        go : (x : Option Path) → path_of all o ≡ x → (y : Option Path) → path_of all k ≡ y → option_map (λ r. make r i) x ≡ Some q → option_map (λ r. make r j) y ≡ Some q → (o ≡ k) × (i ≡ j)
        go None s y t e f = absurd (cc)
        go (Some x) s None t e f = absurd (cc)
        go (Some x) s (Some y) t e f = let same = alike x y i j (some_eq e ∙ sym (some_eq f)) in (same_found o k y (s ∙ ap Some same.0) t, same.1)

    result_alike : (x y : Path) (i j : ℕ) → result x i ≡ result y j → (x ≡ y) × (i ≡ j)
    result_alike x y i j e = (cc, cc)

    argument_alike : (x y : Path) (i j : ℕ) → argument x i ≡ argument y j → (x ≡ y) × (i ≡ j)
    argument_alike x y i j e = (cc, cc)

    -- a place is that of one value
    pub one_value : (v w : Value) (q : Place) → value_place all v ≡ Some q → value_place all w ≡ Some q → v ≡ w
    one_value (Result a i) (Result b j) q e f = let same = same_owner result result_alike (TheOperation a) (TheOperation b) i j q e f in ap₂ Result (op_same a b same.0) same.1
    one_value (Argument a i) (Argument b j) q e f = let same = same_owner argument argument_alike (TheBlock a) (TheBlock b) i j q e f in ap₂ Argument (bl_same a b same.0) same.1
    one_value (Result a i) (Argument b j) q e f = absurd (never_both (λ r. result r i) (λ r. argument r j) (λ x y e. cc) q (path_of all (TheOperation a)) (path_of all (TheBlock b)) e f)
    one_value (Argument a i) (Result b j) q e f = absurd (never_both (λ r. argument r i) (λ r. result r j) (λ x y e. cc) q (path_of all (TheBlock a)) (path_of all (TheOperation b)) e f)

    -- and that of one block
    pub one_block : (a b : Ptr BasicBlock) (q : Place) → block_place all a ≡ Some q → block_place all b ≡ Some q → a ≡ b
    one_block a b q e f = go (path_of all (TheBlock a)) refl (path_of all (TheBlock b)) refl e f
      where
        go : (x : Option Path) → path_of all (TheBlock a) ≡ x → (y : Option Path) → path_of all (TheBlock b) ≡ y → option_map block_at x ≡ Some q → option_map block_at y ≡ Some q → a ≡ b
        go None s y t e f = absurd (cc)
        go (Some x) s None t e f = absurd (cc)
        go (Some x) s (Some y) t e f =
            let both : block_at x ≡ block_at y = some_eq e ∙ sym (some_eq f) in
            let path : x ≡ y = cc in
            bl_same a b (same_found (TheBlock a) (TheBlock b) y (s ∙ ap Some path) t)
