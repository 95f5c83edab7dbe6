-- Each item of a tree that was parsed carries its own mark, and no other: the marks that are recorded are those of the tree, one item a
-- place.
use Rattle.std.proofs.Common.{◌≡◌, ◌∙◌, ◌<◌, ◌==◌, ◌||◌, ◌&&◌, ℕ, suc, Bool, true, false, not, cond, List, [], ◌∷◌, ◌++◌, map, Option, Some, None, refl, sym, ap, subst, arith, inl, inr}
use Rattle.std.specs.Map.{lookup}
use Rattle.std.proofs.lemmas.Bool.Decides.{nat_tests}
use Rattle.irtext_base.specs.Format.{has, distinct}
use Rattle.irtext_context.specs.declared.base.item.Item.{Item}
use Rattle.irtext_context.specs.declared.base.item.Item.TheVariants as item
use Rattle.irtext_graph.specs.declared.object.Object.{Object}
use Rattle.irtext_graph.specs.Chained.{Among}
use Rattle.irtext_graph.proofs.Preorders.{among_left, among_right}
use Rattle.irtext_parse_state.specs.States.{same_index}
use Rattle.irtext_grammar.specs.Grammar.Forest.{Regions, no_regions, region, Blocks, no_blocks, block, Operations, no_operations, operation}
use Rattle.irtext_grammar.specs.Grammar.Tree.{Mark, Op, Head, Brace, Tree}
use Rattle.irtext_grammar.specs.Names.Script.{Path}
use Rattle.irtext_names.proofs.Linked.Moving.{among_split}
use Rattle.irtext_grammar.specs.Naming.{paths_in_regions, paths_in_blocks, paths_in_operations, paths_in}
use Rattle.irtext_grammar.proofs.Naming.Places as places
use Rattle.irtext_grammar.specs.Tracks.{Made}
use Rattle.irtext_names.specs.Carriers.{noted_as}
use Rattle.irtext_parse_section.specs.Items.{CarriesOnly}
use Rattle.irtext_parse_root.specs.Carried.{marks_in_regions, marks_in_blocks, marks_in_operations, marks_in, object_of, AreCarried, Falls}
use Rattle.irtext_parse_root.proofs.Carrying.{carried_by}

-- ---- each item with its mark
module _ {T A : Type 0} where
  abbrev mutual
    -- the items in regions, each with its place and its mark, in the order of the text
    pub marked_regions : Regions (Op ℕ T A) (Head ℕ T A) (Brace ℕ) → List (ℕ × Option (Mark ℕ))
    marked_regions no_regions = []
    marked_regions (region brace bs rs) = marked_blocks bs ++ marked_regions rs

    pub marked_blocks : Blocks (Op ℕ T A) (Head ℕ T A) (Brace ℕ) → List (ℕ × Option (Mark ℕ))
    marked_blocks no_blocks = []
    marked_blocks (block h os bs) = (h.label.place, h.mark) ∷ (marked_operations os ++ marked_blocks bs)

    pub marked_operations : Operations (Op ℕ T A) (Head ℕ T A) (Brace ℕ) → List (ℕ × Option (Mark ℕ))
    marked_operations no_operations = []
    marked_operations (operation o rs os) = (o.place, o.mark) ∷ (marked_regions rs ++ marked_operations os)

  abbrev pub marked_items : Tree ℕ T A → List (ℕ × Option (Mark ℕ))
  marked_items t = (t.own.place, t.own.mark) ∷ marked_regions t.regions

-- ---- their places are those of the paths
pub map_both : {X Y : Type 0} (f : X → Y) (xs ys : List X) → map f (xs ++ ys) ≡ map f xs ++ map f ys
map_both f [] ys = refl
map_both f (x ∷ xs) ys = ap (λ z. f x ∷ z) (map_both f xs ys)

map_join : {X Y Z : Type 0} (f : X → Z) (g : Y → Z) (us vs : List X) (xs ys : List Y) → map f us ≡ map g xs → map f vs ≡ map g ys → map f (us ++ vs) ≡ map g (xs ++ ys)
map_join f g us vs xs ys e h = map_both f us vs ∙ (ap (λ z. z ++ map f vs) e ∙ (ap (λ z. map g xs ++ z) h ∙ sym (map_both g xs ys)))

module _ {T A : Type 0} where
  mutual
    places_regions : (p : Path) (j : ℕ) (rs : Regions (Op ℕ T A) (Head ℕ T A) (Brace ℕ)) → map (λ e. e.0) (marked_regions rs) ≡ map (λ e. e.0) (paths_in_regions p j rs)
    places_regions p j no_regions = refl
    places_regions p j (region brace bs rs) = map_join (λ e. e.0) (λ e. e.0) (marked_blocks bs) (marked_regions rs) (paths_in_blocks (j ∷ p) 0 bs) (paths_in_regions p (suc j) rs) (places_blocks (j ∷ p) 0 bs) (places_regions p (suc j) rs)

    places_blocks : (p : Path) (j : ℕ) (bs : Blocks (Op ℕ T A) (Head ℕ T A) (Brace ℕ)) → map (λ e. e.0) (marked_blocks bs) ≡ map (λ e. e.0) (paths_in_blocks p j bs)
    places_blocks p j no_blocks = refl
    places_blocks p j (block h os bs) = ap (λ z. h.label.place ∷ z)
        (map_join (λ e. e.0) (λ e. e.0) (marked_operations os) (marked_blocks bs) (paths_in_operations (j ∷ p) 0 os) (paths_in_blocks p (suc j) bs) (places_operations (j ∷ p) 0 os) (places_blocks p (suc j) bs))

    places_operations : (p : Path) (j : ℕ) (os : Operations (Op ℕ T A) (Head ℕ T A) (Brace ℕ)) → map (λ e. e.0) (marked_operations os) ≡ map (λ e. e.0) (paths_in_operations p j os)
    places_operations p j no_operations = refl
    places_operations p j (operation o rs os) = ap (λ z. o.place ∷ z)
        (map_join (λ e. e.0) (λ e. e.0) (marked_regions rs) (marked_operations os) (paths_in_regions (j ∷ p) 0 rs) (paths_in_operations p (suc j) os) (places_regions (j ∷ p) 0 rs) (places_operations p (suc j) os))

  pub places_are : (t : Tree ℕ T A) → map (λ e. e.0) (marked_items t) ≡ map (λ e. e.0) (paths_in t)
  places_are t = ap (λ z. t.own.place ∷ z) (places_regions [] 0 t.regions)

-- ---- numbers that fall
abbrev pub Fall : ℕ → List ℕ → Type 0
Fall high [] = Unit {0}
Fall high (n ∷ ns) = (n < high) × Fall n ns

numbers_fall : (high low : ℕ) (items : List (ℕ × Path)) → places.Falls high low items → Fall high (map (λ e. e.0) items)
numbers_fall high low [] f = tt
numbers_fall high low (e ∷ es) f = (f.0, numbers_fall e.0 low es f.1)

below_all : {X : Type 0} (high n : ℕ) (x : X) (es : List (ℕ × X)) → Fall high (map (λ e. e.0) es) → Among (n, x) es → n < high
below_all high n x [] f i = absurd i
below_all high n x (e ∷ es) f (inl s) = let k = f.0 in let l = ap (λ z. z.0) s in omega (arith, k, l)
below_all high n x (e ∷ es) f (inr i) = let k = below_all e.0 n x es f.1 i in let l = f.0 in omega (arith, k, l)

-- at most one element has a number
one_there : {X : Type 0} (high n : ℕ) (x y : X) (es : List (ℕ × X)) → Fall high (map (λ e. e.0) es) → Among (n, x) es → Among (n, y) es → x ≡ y
one_there high n x y [] f i j = absurd i
one_there high n x y (e ∷ es) f (inl s) (inl t) = ap (λ z. z.1) s ∙ sym (ap (λ z. z.1) t)
one_there high n x y (e ∷ es) f (inl s) (inr j) = let k = below_all e.0 n y es f.1 j in let l = ap (λ z. z.0) s in absurd (omega (arith, k, l))
one_there high n x y (e ∷ es) f (inr i) (inl t) = let k = below_all e.0 n x es f.1 i in let l = ap (λ z. z.0) t in absurd (omega (arith, k, l))
one_there high n x y (e ∷ es) f (inr i) (inr j) = one_there e.0 n x y es f.1 i j

-- ---- marks and items
noted_from : (i n place : ℕ) (mark : Option (Mark ℕ)) → Among (i, n) (noted_as mark place) → (m : Mark ℕ) × (mark ≡ Some m) × (m.index ≡ i) × (n ≡ place)
noted_from i n place None a = absurd a
noted_from i n place (Some m) (inl e) = (m, refl, sym (ap (λ z. z.0) e), ap (λ z. z.1) e)
noted_from i n place (Some m) (inr a) = absurd a

noted_to : (place : ℕ) (m : Mark ℕ) → Among (m.index, place) (noted_as (Some m) place)
noted_to place m = inl refl

here_noted : (n place : ℕ) (m : Mark ℕ) (mark : Option (Mark ℕ)) → ◌≡◌ {A = ℕ × Option (Mark ℕ)} (n, Some m) (place, mark) → Among (m.index, n) (noted_as mark place)
here_noted n place m mark e = subst (λ z. Among (m.index, n) (noted_as z.1 z.0)) e (noted_to n m)

-- an item at this place has a mark of this index
record Has (i n : ℕ) (items : List (ℕ × Option (Mark ℕ))) : Type 0 where
  pub mark : Mark ℕ
  pub there : Among (n, Some mark) items
  pub index : mark.index ≡ i

has_left : (i n : ℕ) (xs ys : List (ℕ × Option (Mark ℕ))) → Has i n xs → Has i n (xs ++ ys)
has_left i n xs ys h = record { mark = h.mark; there = among_left (n, Some h.mark) xs ys h.there; index = h.index }

has_right : (i n : ℕ) (xs ys : List (ℕ × Option (Mark ℕ))) → Has i n ys → Has i n (xs ++ ys)
has_right i n xs ys h = record { mark = h.mark; there = among_right (n, Some h.mark) xs ys h.there; index = h.index }

has_after : (i n : ℕ) (x : ℕ × Option (Mark ℕ)) (xs : List (ℕ × Option (Mark ℕ))) → Has i n xs → Has i n (x ∷ xs)
has_after i n x xs h = record { mark = h.mark; there = inr h.there; index = h.index }

has_here : (i n place : ℕ) (mark : Option (Mark ℕ)) (xs : List (ℕ × Option (Mark ℕ))) → Among (i, n) (noted_as mark place) → Has i n ((place, mark) ∷ xs)
has_here i n place mark xs a = let h = noted_from i n place mark a in record { mark = h.0; there = inl (ap (λ z. (n, z)) (sym h.1) ∙ ap (λ z. (z, mark)) h.3); index = h.2 }

module _ {T A : Type 0} where
  mutual
    regions_have : (i n : ℕ) (rs : Regions (Op ℕ T A) (Head ℕ T A) (Brace ℕ)) → Among (i, n) (marks_in_regions rs) → Has i n (marked_regions rs)
    regions_have i n no_regions a = absurd a
    regions_have i n (region brace bs rs) a = elim (among_split (i, n) (marks_in_blocks bs) (marks_in_regions rs) a) [
      | inl b ↦ has_left i n (marked_blocks bs) (marked_regions rs) (blocks_have i n bs b)
      | inr b ↦ has_right i n (marked_blocks bs) (marked_regions rs) (regions_have i n rs b)
    ]

    blocks_have : (i n : ℕ) (bs : Blocks (Op ℕ T A) (Head ℕ T A) (Brace ℕ)) → Among (i, n) (marks_in_blocks bs) → Has i n (marked_blocks bs)
    blocks_have i n no_blocks a = absurd a
    blocks_have i n (block h os bs) a = elim (among_split (i, n) (noted_as h.mark h.label.place) (marks_in_operations os ++ marks_in_blocks bs) a) [
      | inl b ↦ has_here i n h.label.place h.mark (marked_operations os ++ marked_blocks bs) b
      | inr b ↦ has_after i n (h.label.place, h.mark) (marked_operations os ++ marked_blocks bs) (elim (among_split (i, n) (marks_in_operations os) (marks_in_blocks bs) b) [
        | inl c ↦ has_left i n (marked_operations os) (marked_blocks bs) (operations_have i n os c)
        | inr c ↦ has_right i n (marked_operations os) (marked_blocks bs) (blocks_have i n bs c)
      ])
    ]

    operations_have : (i n : ℕ) (os : Operations (Op ℕ T A) (Head ℕ T A) (Brace ℕ)) → Among (i, n) (marks_in_operations os) → Has i n (marked_operations os)
    operations_have i n no_operations a = absurd a
    operations_have i n (operation o rs os) a = elim (among_split (i, n) (marks_in_regions rs ++ noted_as o.mark o.place) (marks_in_operations os) a) [
      | inl b ↦ elim (among_split (i, n) (marks_in_regions rs) (noted_as o.mark o.place) b) [
        | inl c ↦ has_after i n (o.place, o.mark) (marked_regions rs ++ marked_operations os) (has_left i n (marked_regions rs) (marked_operations os) (regions_have i n rs c))
        | inr c ↦ has_here i n o.place o.mark (marked_regions rs ++ marked_operations os) c
      ]
      | inr b ↦ has_after i n (o.place, o.mark) (marked_regions rs ++ marked_operations os) (has_right i n (marked_regions rs) (marked_operations os) (operations_have i n os b))
    ]

  tree_has : (i n : ℕ) (t : Tree ℕ T A) → Among (i, n) (marks_in t) → Has i n (marked_items t)
  tree_has i n t a = elim (among_split (i, n) (marks_in_regions t.regions) (noted_as t.own.mark t.own.place) a) [
    | inl b ↦ has_after i n (t.own.place, t.own.mark) (marked_regions t.regions) (regions_have i n t.regions b)
    | inr b ↦ has_here i n t.own.place t.own.mark (marked_regions t.regions) b
  ]

  mutual
    regions_note : (n : ℕ) (m : Mark ℕ) (rs : Regions (Op ℕ T A) (Head ℕ T A) (Brace ℕ)) → Among (n, Some m) (marked_regions rs) → Among (m.index, n) (marks_in_regions rs)
    regions_note n m no_regions a = absurd a
    regions_note n m (region brace bs rs) a = elim (among_split (n, Some m) (marked_blocks bs) (marked_regions rs) a) [
      | inl b ↦ among_left (m.index, n) (marks_in_blocks bs) (marks_in_regions rs) (blocks_note n m bs b)
      | inr b ↦ among_right (m.index, n) (marks_in_blocks bs) (marks_in_regions rs) (regions_note n m rs b)
    ]

    blocks_note : (n : ℕ) (m : Mark ℕ) (bs : Blocks (Op ℕ T A) (Head ℕ T A) (Brace ℕ)) → Among (n, Some m) (marked_blocks bs) → Among (m.index, n) (marks_in_blocks bs)
    blocks_note n m no_blocks a = absurd a
    blocks_note n m (block h os bs) (inl e) = among_left (m.index, n) (noted_as h.mark h.label.place) (marks_in_operations os ++ marks_in_blocks bs) (here_noted n h.label.place m h.mark e)
    blocks_note n m (block h os bs) (inr a) = among_right (m.index, n) (noted_as h.mark h.label.place) (marks_in_operations os ++ marks_in_blocks bs) (elim (among_split (n, Some m) (marked_operations os) (marked_blocks bs) a) [
      | inl b ↦ among_left (m.index, n) (marks_in_operations os) (marks_in_blocks bs) (operations_note n m os b)
      | inr b ↦ among_right (m.index, n) (marks_in_operations os) (marks_in_blocks bs) (blocks_note n m bs b)
    ])

    operations_note : (n : ℕ) (m : Mark ℕ) (os : Operations (Op ℕ T A) (Head ℕ T A) (Brace ℕ)) → Among (n, Some m) (marked_operations os) → Among (m.index, n) (marks_in_operations os)
    operations_note n m no_operations a = absurd a
    operations_note n m (operation o rs os) (inl e) = among_left (m.index, n) (marks_in_regions rs ++ noted_as o.mark o.place) (marks_in_operations os)
        (among_right (m.index, n) (marks_in_regions rs) (noted_as o.mark o.place) (here_noted n o.place m o.mark e))
    operations_note n m (operation o rs os) (inr a) = elim (among_split (n, Some m) (marked_regions rs) (marked_operations os) a) [
      | inl b ↦ among_left (m.index, n) (marks_in_regions rs ++ noted_as o.mark o.place) (marks_in_operations os) (among_left (m.index, n) (marks_in_regions rs) (noted_as o.mark o.place) (regions_note n m rs b))
      | inr b ↦ among_right (m.index, n) (marks_in_regions rs ++ noted_as o.mark o.place) (marks_in_operations os) (operations_note n m os b)
    ]

  tree_notes : (n : ℕ) (m : Mark ℕ) (t : Tree ℕ T A) → Among (n, Some m) (marked_items t) → Among (m.index, n) (marks_in t)
  tree_notes n m t (inl e) = among_right (m.index, n) (marks_in_regions t.regions) (noted_as t.own.mark t.own.place) (here_noted n t.own.place m t.own.mark e)
  tree_notes n m t (inr a) = among_left (m.index, n) (marks_in_regions t.regions) (noted_as t.own.mark t.own.place) (regions_note n m t.regions a)

-- ---- looked up by index
same_here : (i : ℕ) → same_index i i ≡ true
same_here i = grind (arith, nat_tests)

same_is : (i j : ℕ) → same_index i j ≡ true → i ≡ j
same_is i j e = grind (arith, nat_tests)

pub lookup_among : {X : Type 0} (i : ℕ) (x : X) (ns : List (ℕ × X)) → lookup (same_index i) ns ≡ Some x → Among (i, x) ns
lookup_among i x [] e = absurd (cc)
lookup_among {X} i x (n ∷ ns) e = go (lookup_among i x ns) (same_index i n.0) refl e
  where
    go : (lookup (same_index i) ns ≡ Some x → Among (i, x) ns) → (b : Bool) → same_index i n.0 ≡ b → cond b (Some n.1) (lookup (same_index i) ns) ≡ Some x → Among (i, x) (n ∷ ns)
    go more true f e = let same : n.1 ≡ x = cc e in inl (ap (λ z. (i, z)) (sym same) ∙ ap (λ z. (z, n.1)) (same_is i n.0 f))
    go more false f e = inr (more e)

or_true : (a b : Bool) → b ≡ true → (a || b) ≡ true
or_true true b e = refl
or_true false b e = e

among_has : {X : Type 0} (i : ℕ) (x : X) (ns : List (ℕ × X)) → Among (i, x) ns → has ◌==◌ i (map (λ n. n.0) ns) ≡ true
among_has i x [] a = absurd a
among_has i x (n ∷ ns) (inl e) = ap (λ b. b || has ◌==◌ i (map (λ z. z.0) ns)) (subst (λ z. same_index i z ≡ true) (ap (λ z. z.0) e) (same_here i))
among_has i x (n ∷ ns) (inr a) = or_true (same_index i n.0) (has ◌==◌ i (map (λ z. z.0) ns)) (among_has i x ns a)

both_true : (a b : Bool) → (a && b) ≡ true → (a ≡ true) × (b ≡ true)
both_true true b e = (refl, e)
both_true false b e = absurd (cc)

not_true : (a : Bool) → not a ≡ true → a ≡ true → ⊥
not_true true e f = cc
not_true false e f = cc

-- if no index occurs twice, each is looked up
pub found_there : {X : Type 0} (i : ℕ) (x : X) (ns : List (ℕ × X)) → distinct ◌==◌ (map (λ n. n.0) ns) ≡ true → Among (i, x) ns → lookup (same_index i) ns ≡ Some x
found_there i x [] d a = absurd a
found_there i x (n ∷ ns) d (inl e) =
    ap (λ b. cond b (Some n.1) (lookup (same_index i) ns)) (subst (λ z. same_index i z ≡ true) (ap (λ z. z.0) e) (same_here i)) ∙ ap (λ z. Some z.1) (sym e)
found_there {X} i x (n ∷ ns) d (inr a) =
    let k = both_true (not (has ◌==◌ n.0 (map (λ z. z.0) ns))) (distinct ◌==◌ (map (λ z. z.0) ns)) d in
    go k.0 (found_there i x ns k.1 a) (same_index i n.0) refl
  where
    go : not (has ◌==◌ n.0 (map (λ z. z.0) ns)) ≡ true → lookup (same_index i) ns ≡ Some x → (b : Bool) → same_index i n.0 ≡ b → cond b (Some n.1) (lookup (same_index i) ns) ≡ Some x
    go apart more true f = absurd (not_true (has ◌==◌ n.0 (map (λ z. z.0) ns)) apart (subst (λ z. has ◌==◌ z (map (λ z. z.0) ns) ≡ true) (same_is i n.0 f) (among_has i x ns a)))
    go apart more false f = more

-- an item that carries a mark was made for its place
pub carried_back : (items : Made) (ms : List (ℕ × ℕ)) (ns : List (ℕ × Item)) (i : ℕ) (x : Item) → AreCarried items ms ns → Among (i, x) ns → (n : ℕ) × Among (i, n) ms × Among (n, object_of x) items
carried_back items [] [] i x h a = absurd a
carried_back items [] (n ∷ ns) i x h a = absurd h
carried_back items (m ∷ ms) [] i x h a = absurd h
carried_back items (m ∷ ms) (n ∷ ns) i x (e, made, h) (inl s) =
    (m.1, inl (ap (λ z. (z, m.1)) (ap (λ z. z.0) s ∙ e)), subst (λ z. Among (m.1, object_of z) items) (sym (ap (λ z. z.1) s)) made)
carried_back items (m ∷ ms) (n ∷ ns) i x (e, made, h) (inr a) = let r = carried_back items ms ns i x h a in (r.0, inr r.1, r.2)

-- the indices that are recorded are those of the marks
pub indices_carried : (items : Made) (ms : List (ℕ × ℕ)) (ns : List (ℕ × Item)) → AreCarried items ms ns → map (λ n. n.0) ns ≡ map (λ m. m.0) ms
indices_carried items [] [] h = refl
indices_carried items [] (n ∷ ns) h = absurd h
indices_carried items (m ∷ ms) [] h = absurd h
indices_carried items (m ∷ ms) (n ∷ ns) (e, made, h) = ap (λ z. z ∷ map (λ n. n.0) ns) e ∙ ap (λ z. m.0 ∷ z) (indices_carried items ms ns h)

pub one_item : (x y : Item) → object_of x ≡ object_of y → x ≡ y
one_item (item.Operation p) (item.Operation q) e = let same : p ≡ q = cc e in ap item.Operation same
one_item (item.Operation p) (item.Block b) e = absurd (cc)
one_item (item.Block b) (item.Operation p) e = absurd (cc)
one_item (item.Block b) (item.Block k) e = let same : b ≡ k = cc e in ap item.Block same

module _ {T A : Type 0} (t : Tree ℕ T A) (high low : ℕ) (fall : places.Falls high low (paths_in t)) (items : Made) (marks : List (ℕ × Item)) (carried : AreCarried items (marks_in t) marks)
    (above below : ℕ) (falls : Falls above items below) (once : (n m : ℕ) (o : Object) → Among (n, o) items → Among (m, o) items → n ≡ m) (apart : distinct ◌==◌ (map (λ m. m.0) (marks_in t)) ≡ true) where
  all_fall : Fall high (map (λ e. e.0) (marked_items t))
  all_fall = subst (Fall high) (sym (places_are t)) (numbers_fall high low (paths_in t) fall)

  apart_noted : distinct ◌==◌ (map (λ n. n.0) marks) ≡ true
  apart_noted = ap (distinct ◌==◌) (indices_carried items (marks_in t) marks carried) ∙ apart

  -- what the look-up of an index says of an item
  looked_up : (i n : ℕ) (x : Item) (mark : Option (Mark ℕ)) → Among (n, object_of x) items → Among (n, mark) (marked_items t) → lookup (same_index i) marks ≡ Some x → (m : Mark ℕ) × (mark ≡ Some m) × (m.index ≡ i)
  looked_up i n x mark made there e =
      let b = carried_back items (marks_in t) marks i x carried (lookup_among i x marks e) in
      let same : b.0 ≡ n = once b.0 n (object_of x) b.2 made in
      let h = tree_has i n t (subst (λ z. Among (i, z) (marks_in t)) same b.1) in
      (h.mark, one_there high n mark (Some h.mark) (marked_items t) all_fall there h.there, h.index)

  -- an item of the tree carries its own mark alone
  pub carries_only : (n : ℕ) (x : Item) (mark : Option (Mark ℕ)) → Among (n, object_of x) items → Among (n, mark) (marked_items t) → CarriesOnly marks x mark
  carries_only n x None made there = λ i e. let r = looked_up i n x None made there e in cc r.1
  carries_only n x (Some m) made there =
      let c = carried_by above items below (marks_in t) marks m.index n (object_of x) carried falls (tree_notes n m t there) made in
      let is : c.0 ≡ x = one_item c.0 x c.1 in (
        found_there m.index x marks apart_noted (subst (λ z. Among (m.index, z) marks) is c.2),
        λ i e. let r = looked_up i n x (Some m) made there e in let same : m ≡ r.0 = cc r.1 in sym r.2 ∙ ap (λ z. z.index) (sym same),
      )
