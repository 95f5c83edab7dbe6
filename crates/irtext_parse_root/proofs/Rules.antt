-- What is allowed in an entry by the items that carry marks is what is allowed by the tree.
use Rattle.std.proofs.Common.{◌≡◌, ◌∙◌, ◌==◌, ◌⊎◌, ℕ, Bool, true, false, cond, List, [], ◌∷◌, ◌++◌, map, Option, Some, None, refl, sym, ap, subst, inl, inr, arith}
use Rattle.std.specs.Prelude.{nat_eq}
use Rattle.std.specs.Map.{lookup}
use Rattle.std.proofs.lemmas.Bool.Decides.{nat_tests}
use Rattle.irtext_base.specs.Format.{distinct}
use Rattle.irtext_base.specs.declared.location.Location.{Location}
use Rattle.irtext_context.specs.Context.{ContextView}
use Rattle.irtext_context.specs.declared.base.item.Item.{Item}
use Rattle.irtext_context.specs.declared.base.item.Item.TheVariants as item
use Rattle.irtext_graph.specs.declared.arena.Ptr.{Ptr}
use Rattle.irtext_graph.specs.declared.object.Operation.{Operation}
use Rattle.irtext_graph.specs.declared.object.BasicBlock.{BasicBlock}
use Rattle.irtext_graph.specs.declared.object.Region.{Region}
use Rattle.irtext_graph.specs.declared.object.Object.TheVariants.{TheOperation, TheBlock}
use Rattle.irtext_graph.specs.Chained.{Among}
use Rattle.irtext_graph.proofs.Preorders.{among_left, among_right}
use Rattle.irtext_parse_state.specs.States.{same_index}
use Rattle.irtext_grammar.specs.Grammar.Forest as forest
use Rattle.irtext_grammar.specs.Grammar.Forest.{Regions, no_regions, Blocks, no_blocks, Operations, no_operations, Root}
use Rattle.irtext_grammar.specs.Grammar.Tree.{Mark, Op, Head, Brace, Tree}
use Rattle.irtext_grammar.specs.Names.Acts.{may_hold, keeps_label_key, marked_as, block_marks_in_regions, block_marks_in_blocks, block_marks_in_operations, rule_of}
use Rattle.irtext_grammar.specs.Names.Scopes.{is_among}
use Rattle.irtext_names.proofs.Linked.Moving.{among_split}
use Rattle.irtext_grammar.specs.Tracks.{Made}
use Rattle.irtext_names.specs.Held.{PtrRegions, PtrBlocks, PtrOperations}
use Rattle.irtext_names.specs.Placed.{RegionsAre, BlocksAre, OperationsAre, RootIs}
use Rattle.irtext_names.specs.Carriers.{noted_as}
use Rattle.irtext_parse_root.specs.Carried.{marks_in_regions, marks_in_blocks, marks_in_operations, marks_in, object_of, AreCarried, Falls}
use Rattle.irtext_parse_root.proofs.Carrying.{one_object, carried_by}
use Rattle.irtext_parse_section.specs.Said.{rules_of, rule_of_item}
use Rattle.irtext_parse_root.proofs.Marks.{map_both, found_there, carried_back, indices_carried, lookup_among}

index_noted : (mark : Option (Mark ℕ)) (place : ℕ) → map (λ m. m.0) (noted_as mark place) ≡ marked_as mark
index_noted None place = refl
index_noted (Some m) place = refl

-- ---- the marks of blocks
module _ {T A : Type 0} where
  abbrev mutual
    -- those in regions: the index of each, and the place of its block
    pub of_regions : Regions (Op ℕ T A) (Head ℕ T A) (Brace ℕ) → List (ℕ × ℕ)
    of_regions no_regions = []
    of_regions (forest.region brace bs rs) = of_blocks bs ++ of_regions rs

    pub of_blocks : Blocks (Op ℕ T A) (Head ℕ T A) (Brace ℕ) → List (ℕ × ℕ)
    of_blocks no_blocks = []
    of_blocks (forest.block h os bs) = noted_as h.mark h.label.place ++ (of_operations os ++ of_blocks bs)

    pub of_operations : Operations (Op ℕ T A) (Head ℕ T A) (Brace ℕ) → List (ℕ × ℕ)
    of_operations no_operations = []
    of_operations (forest.operation o rs os) = of_regions rs ++ of_operations os

  mutual
    regions_indices : (rs : Regions (Op ℕ T A) (Head ℕ T A) (Brace ℕ)) → map (λ m. m.0) (of_regions rs) ≡ block_marks_in_regions rs
    regions_indices no_regions = refl
    regions_indices (forest.region brace bs rs) =
        map_both (λ m. m.0) (of_blocks bs) (of_regions rs) ∙ (ap (λ z. z ++ map (λ m. m.0) (of_regions rs)) (blocks_indices bs) ∙ ap (λ z. block_marks_in_blocks bs ++ z) (regions_indices rs))

    blocks_indices : (bs : Blocks (Op ℕ T A) (Head ℕ T A) (Brace ℕ)) → map (λ m. m.0) (of_blocks bs) ≡ block_marks_in_blocks bs
    blocks_indices no_blocks = refl
    blocks_indices (forest.block h os bs) =
        map_both (λ m. m.0) (noted_as h.mark h.label.place) (of_operations os ++ of_blocks bs)
        ∙ (ap (λ z. z ++ map (λ m. m.0) (of_operations os ++ of_blocks bs)) (index_noted h.mark h.label.place)
        ∙ ap (λ z. marked_as h.mark ++ z) (map_both (λ m. m.0) (of_operations os) (of_blocks bs) ∙ (ap (λ z. z ++ map (λ m. m.0) (of_blocks bs)) (operations_indices os) ∙ ap (λ z. block_marks_in_operations os ++ z) (blocks_indices bs))))

    operations_indices : (os : Operations (Op ℕ T A) (Head ℕ T A) (Brace ℕ)) → map (λ m. m.0) (of_operations os) ≡ block_marks_in_operations os
    operations_indices no_operations = refl
    operations_indices (forest.operation o rs os) =
        map_both (λ m. m.0) (of_regions rs) (of_operations os) ∙ (ap (λ z. z ++ map (λ m. m.0) (of_operations os)) (regions_indices rs) ∙ ap (λ z. block_marks_in_regions rs ++ z) (operations_indices os))

place_noted : (i n place : ℕ) (mark : Option (Mark ℕ)) → Among (i, n) (noted_as mark place) → place ≡ n
place_noted i n place None a = absurd a
place_noted i n place (Some m) (inl e) = sym (ap (λ z. z.1) e)
place_noted i n place (Some m) (inr a) = absurd a

module _ {T A : Type 0} (L : ℕ → Location A → Type 0) (c : ContextView T A) (items : Made) where
  -- a mark that is recorded is a block's, or an operation was made for its place
  abbrev IsKind : ℕ → ℕ → List (ℕ × ℕ) → Type 0
  IsKind i n blocks = Among (i, n) blocks ⊎ ((p : Ptr Operation) × Among (n, TheOperation p) items)

  kind_left : (i n : ℕ) (xs ys : List (ℕ × ℕ)) → IsKind i n xs → IsKind i n (xs ++ ys)
  kind_left i n xs ys (inl a) = inl (among_left (i, n) xs ys a)
  kind_left i n xs ys (inr h) = inr h

  kind_right : (i n : ℕ) (xs ys : List (ℕ × ℕ)) → IsKind i n ys → IsKind i n (xs ++ ys)
  kind_right i n xs ys (inl a) = inl (among_right (i, n) xs ys a)
  kind_right i n xs ys (inr h) = inr h

  -- one of two lists, each recorded so
  kind_both : (i n : ℕ) (ms ks xs ys : List (ℕ × ℕ)) → (Among (i, n) ms → IsKind i n xs) → (Among (i, n) ks → IsKind i n ys) → Among (i, n) (ms ++ ks) → IsKind i n (xs ++ ys)
  kind_both i n ms ks xs ys left right a = elim (among_split (i, n) ms ks a) [ inl b ↦ kind_left i n xs ys (left b) | inr b ↦ kind_right i n xs ys (right b) ]

  -- the mark of an operation, or one in its regions
  one_kind : (i n : ℕ) (p : Ptr Operation) (o : Op ℕ T A) (rs : Regions (Op ℕ T A) (Head ℕ T A) (Brace ℕ)) → Among (o.place, TheOperation p) items → (Among (i, n) (marks_in_regions rs) → IsKind i n (of_regions rs))
      → Among (i, n) (marks_in_regions rs ++ noted_as o.mark o.place) → IsKind i n (of_regions rs)
  one_kind i n p o rs there within a = elim (among_split (i, n) (marks_in_regions rs) (noted_as o.mark o.place) a) [
    | inl r ↦ within r
    | inr r ↦ inr (p, subst (λ z. Among (z, TheOperation p) items) (place_noted i n o.place o.mark r) there)
  ]

  mutual
    regions_kind : (i n : ℕ) (ps : PtrRegions) (rs : Regions (Op ℕ T A) (Head ℕ T A) (Brace ℕ)) → RegionsAre L c items ps rs → Among (i, n) (marks_in_regions rs) → IsKind i n (of_regions rs)
    regions_kind i n no_regions no_regions h a = absurd a
    regions_kind i n no_regions (forest.region brace bs rs) h a = absurd h
    regions_kind i n (forest.region r qs ps) no_regions h a = absurd h
    regions_kind i n (forest.region r qs ps) (forest.region brace bs rs) (at, k, h) a =
        kind_both i n (marks_in_blocks bs) (marks_in_regions rs) (of_blocks bs) (of_regions rs) (blocks_kind i n qs bs k) (regions_kind i n ps rs h) a

    blocks_kind : (i n : ℕ) (ps : PtrBlocks) (bs : Blocks (Op ℕ T A) (Head ℕ T A) (Brace ℕ)) → BlocksAre L c items ps bs → Among (i, n) (marks_in_blocks bs) → IsKind i n (of_blocks bs)
    blocks_kind i n no_blocks no_blocks h a = absurd a
    blocks_kind i n no_blocks (forest.block head os bs) h a = absurd h
    blocks_kind i n (forest.block b qs ps) no_blocks h a = absurd h
    blocks_kind i n (forest.block b qs ps) (forest.block head os bs) (at, k, h) a =
        let note = noted_as head.mark head.label.place in
        kind_both i n note (marks_in_operations os ++ marks_in_blocks bs) note (of_operations os ++ of_blocks bs) (λ m. inl m)
        (kind_both i n (marks_in_operations os) (marks_in_blocks bs) (of_operations os) (of_blocks bs) (operations_kind i n qs os k) (blocks_kind i n ps bs h)) a

    operations_kind : (i n : ℕ) (ps : PtrOperations) (os : Operations (Op ℕ T A) (Head ℕ T A) (Brace ℕ)) → OperationsAre L c items ps os → Among (i, n) (marks_in_operations os) → IsKind i n (of_operations os)
    operations_kind i n no_operations no_operations h a = absurd a
    operations_kind i n no_operations (forest.operation o rs os) h a = absurd h
    operations_kind i n (forest.operation p qs ps) no_operations h a = absurd h
    operations_kind i n (forest.operation p qs ps) (forest.operation o rs os) (at, k, h) a =
        kind_both i n (marks_in_regions rs ++ noted_as o.mark o.place) (marks_in_operations os) (of_regions rs) (of_operations os) (one_kind i n p o rs at.item (regions_kind i n qs rs k)) (operations_kind i n ps os h) a

  tree_kind : (i n : ℕ) (ps : Root (Ptr Operation) (Ptr BasicBlock) (Ptr Region)) (t : Tree ℕ T A) → RootIs L c items ps t → Among (i, n) (marks_in t) → IsKind i n (of_regions t.regions)
  tree_kind i n ps t (at, h) a = one_kind i n ps.own t.own t.regions at.item (regions_kind i n ps.regions t.regions h) a

  -- a block was made for the place of a block's mark, which is one of the tree
  mutual
    regions_made : (i n : ℕ) (ps : PtrRegions) (rs : Regions (Op ℕ T A) (Head ℕ T A) (Brace ℕ)) → RegionsAre L c items ps rs → Among (i, n) (of_regions rs) → (b : Ptr BasicBlock) × Among (n, TheBlock b) items × Among (i, n) (marks_in_regions rs)
    regions_made i n no_regions no_regions h a = absurd a
    regions_made i n no_regions (forest.region brace bs rs) h a = absurd h
    regions_made i n (forest.region r qs ps) no_regions h a = absurd h
    regions_made i n (forest.region r qs ps) (forest.region brace bs rs) (at, k, h) a = elim (among_split (i, n) (of_blocks bs) (of_regions rs) a) [
      | inl b ↦ let d = blocks_made i n qs bs k b in (d.0, d.1, among_left (i, n) (marks_in_blocks bs) (marks_in_regions rs) d.2)
      | inr b ↦ let d = regions_made i n ps rs h b in (d.0, d.1, among_right (i, n) (marks_in_blocks bs) (marks_in_regions rs) d.2)
    ]

    blocks_made : (i n : ℕ) (ps : PtrBlocks) (bs : Blocks (Op ℕ T A) (Head ℕ T A) (Brace ℕ)) → BlocksAre L c items ps bs → Among (i, n) (of_blocks bs) → (b : Ptr BasicBlock) × Among (n, TheBlock b) items × Among (i, n) (marks_in_blocks bs)
    blocks_made i n no_blocks no_blocks h a = absurd a
    blocks_made i n no_blocks (forest.block head os bs) h a = absurd h
    blocks_made i n (forest.block b qs ps) no_blocks h a = absurd h
    blocks_made i n (forest.block b qs ps) (forest.block head os bs) (at, k, h) a = elim (among_split (i, n) (noted_as head.mark head.label.place) (of_operations os ++ of_blocks bs) a) [
      | inl m ↦ (b, subst (λ z. Among (z, TheBlock b) items) (place_noted i n head.label.place head.mark m) at.item, among_left (i, n) (noted_as head.mark head.label.place) (marks_in_operations os ++ marks_in_blocks bs) m)
      | inr m ↦ elim (among_split (i, n) (of_operations os) (of_blocks bs) m) [
        | inl o ↦ let d = operations_made i n qs os k o in
            (d.0, d.1, among_right (i, n) (noted_as head.mark head.label.place) (marks_in_operations os ++ marks_in_blocks bs) (among_left (i, n) (marks_in_operations os) (marks_in_blocks bs) d.2))
        | inr o ↦ let d = blocks_made i n ps bs h o in
            (d.0, d.1, among_right (i, n) (noted_as head.mark head.label.place) (marks_in_operations os ++ marks_in_blocks bs) (among_right (i, n) (marks_in_operations os) (marks_in_blocks bs) d.2))
      ]
    ]

    operations_made : (i n : ℕ) (ps : PtrOperations) (os : Operations (Op ℕ T A) (Head ℕ T A) (Brace ℕ)) → OperationsAre L c items ps os → Among (i, n) (of_operations os) → (b : Ptr BasicBlock) × Among (n, TheBlock b) items × Among (i, n) (marks_in_operations os)
    operations_made i n no_operations no_operations h a = absurd a
    operations_made i n no_operations (forest.operation o rs os) h a = absurd h
    operations_made i n (forest.operation p qs ps) no_operations h a = absurd h
    operations_made i n (forest.operation p qs ps) (forest.operation o rs os) (at, k, h) a = elim (among_split (i, n) (of_regions rs) (of_operations os) a) [
      | inl m ↦ let d = regions_made i n qs rs k m in
          (d.0, d.1, among_left (i, n) (marks_in_regions rs ++ noted_as o.mark o.place) (marks_in_operations os) (among_left (i, n) (marks_in_regions rs) (noted_as o.mark o.place) d.2))
      | inr m ↦ let d = operations_made i n ps os h m in (d.0, d.1, among_right (i, n) (marks_in_regions rs ++ noted_as o.mark o.place) (marks_in_operations os) d.2)
    ]

-- ---- an index among others
number_is : (m n : ℕ) → nat_eq m n ≡ true → n ≡ m
number_is m n e = grind (arith, nat_tests)

number_here : (n : ℕ) → nat_eq n n ≡ true
number_here n = grind (arith, nat_tests)

if_true : (a b : Bool) → b ≡ true → cond a true b ≡ true
if_true true b e = refl
if_true false b e = e

is_there : (i : ℕ) (es : List (ℕ × ℕ)) → is_among i (map (λ e. e.0) es) ≡ true → (n : ℕ) × Among (i, n) es
is_there i [] e = absurd (cc)
is_there i (d ∷ es) e = go (is_there i es) (nat_eq d.0 i) refl e
  where
    go : (is_among i (map (λ e. e.0) es) ≡ true → (n : ℕ) × Among (i, n) es) → (b : Bool) → nat_eq d.0 i ≡ b → cond b true (is_among i (map (λ e. e.0) es)) ≡ true → (n : ℕ) × Among (i, n) (d ∷ es)
    go more true f e = (d.1, inl (ap (λ z. (z, d.1)) (number_is d.0 i f)))
    go more false f e = let r = more e in (r.0, inr r.1)

there_is : (i n : ℕ) (es : List (ℕ × ℕ)) → Among (i, n) es → is_among i (map (λ e. e.0) es) ≡ true
there_is i n [] a = absurd a
there_is i n (d ∷ es) (inl e) = ap (λ b. cond b true (is_among i (map (λ e. e.0) es))) (subst (λ z. nat_eq z i ≡ true) (ap (λ z. z.0) e) (number_here i))
there_is i n (d ∷ es) (inr a) = if_true (nat_eq d.0 i) (is_among i (map (λ e. e.0) es)) (there_is i n es a)

module _ {T A : Type 0} (L : ℕ → Location A → Type 0) (c : ContextView T A) (items : Made) (ps : Root (Ptr Operation) (Ptr BasicBlock) (Ptr Region)) (t : Tree ℕ T A) (is : RootIs L c items ps t) (marks : List (ℕ × Item)) (carried : AreCarried items (marks_in t) marks)
    (above below : ℕ) (falls : Falls above items below) (apart : distinct ◌==◌ (map (λ m. m.0) (marks_in t)) ≡ true) where
  apart_items : distinct ◌==◌ (map (λ n. n.0) marks) ≡ true
  apart_items = ap (distinct ◌==◌) (indices_carried items (marks_in t) marks carried) ∙ apart

  abbrev blocks : List (ℕ × ℕ)
  blocks = of_regions t.regions

  -- a block carries the mark of a block
  block_carries : (i : ℕ) → is_among i (map (λ e. e.0) blocks) ≡ true → (b : Ptr BasicBlock) × (lookup (same_index i) marks ≡ Some (item.Block b))
  block_carries i e =
      let n = is_there i blocks e in
      let d = regions_made L c items i n.0 ps.regions t.regions is.1 n.1 in
      let k = carried_by above items below (marks_in t) marks i n.0 (TheBlock d.0) carried falls (among_left (i, n.0) (marks_in_regions t.regions) (noted_as t.own.mark t.own.place) d.2) d.1 in
      (d.0, found_there i (item.Block d.0) marks apart_items (subst (λ z. Among (i, z) marks) (block_item k.0 d.0 k.1) k.2))
    where
      block_item : (x : Item) (b : Ptr BasicBlock) → object_of x ≡ TheBlock b → x ≡ item.Block b
      block_item (item.Operation p) b e = absurd (cc)
      block_item (item.Block k) b e = let same : k ≡ b = cc e in ap item.Block same

  rule_here : (i : ℕ) (o : Option Item) (b : Bool) → lookup (same_index i) marks ≡ o → is_among i (map (λ e. e.0) blocks) ≡ b → rule_of_item {A = A} o ≡ cond b keeps_label_key may_hold
  rule_here i None true e f = absurd (let k = block_carries i f in let g = sym e ∙ k.1 in cc)
  rule_here i None false e f = refl
  rule_here i (Some (item.Operation p)) true e f = absurd (let k = block_carries i f in let g = sym e ∙ k.1 in cc)
  rule_here i (Some (item.Operation p)) false e f = refl
  rule_here i (Some (item.Block b)) true e f = refl
  rule_here i (Some (item.Block b)) false e f =
      let k = carried_back items (marks_in t) marks i (item.Block b) carried (lookup_among i (item.Block b) marks e) in
      absurd (elim (tree_kind L c items i k.0 ps t is k.1) [
        | inl a ↦ let g = sym (there_is i k.0 blocks a) ∙ f in cc
        | inr (p, made) ↦ let g = one_object above items below k.0 (TheBlock b) (TheOperation p) falls k.2 made in cc
      ])

  pub rules_are : rules_of marks ≡ rule_of t
  rules_are = λ j i.
      (rule_here i (lookup (same_index i) marks) (is_among i (map (λ e. e.0) blocks)) refl refl
      ∙ ap (λ z. cond (is_among i z) keeps_label_key may_hold) (regions_indices t.regions)) j
