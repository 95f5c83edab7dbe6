-- In a forest of pointers each object has a path of its own.
use Rattle.std.proofs.Common.{◌≡◌, ◌∙◌, ◌+◌, ◌≤◌, ℕ, suc, Bool, true, false, cond, List, [], ◌∷◌, ◌++◌, length, length-append, Some, refl, sym, ap, subst, inl, inr, arith}
use Rattle.irtext_graph.specs.declared.object.Object.{Object}
use Rattle.irtext_graph.specs.declared.object.Object.TheVariants.{TheOperation, TheBlock, TheRegion}
use Rattle.irtext_graph.specs.declared.arena.Ptr.{Ptr}
use Rattle.irtext_graph.specs.declared.object.Operation.{Operation}
use Rattle.irtext_graph.specs.declared.object.BasicBlock.{BasicBlock}
use Rattle.irtext_graph.specs.declared.object.Region.{Region}
use Rattle.irtext_graph.specs.Chained.{Among}
use Rattle.irtext_graph.specs.Objects.{eq_object}
use Rattle.irtext_graph.proofs.Same.{object_tells}
use Rattle.irtext_grammar.specs.Grammar.Forest as forest
use Rattle.irtext_grammar.specs.Grammar.Forest.{no_regions, no_blocks, no_operations, Root}
use Rattle.irtext_grammar.specs.Names.Script.{Path}
use Rattle.irtext_names.proofs.Linked.Moving.{among_split}
use Rattle.irtext_names.specs.Held.{PtrRegions, PtrBlocks, PtrOperations, placed_regions, placed_blocks, placed_operations, placed_under, path_of}

-- ---- the ends of paths
-- the path ends so
Ends : Path → Path → Type 0
Ends s q = (xs : Path) × (q ≡ xs ++ s)

tail_of : Path → Path
tail_of [] = []
tail_of (x ∷ xs) = xs

same_end : (xs ys s t : Path) → xs ++ s ≡ ys ++ t → length s ≡ length t → s ≡ t
unfolding tail_of
same_end [] [] s t e l = e
same_end (x ∷ xs) (y ∷ ys) s t e l = same_end xs ys s t (ap tail_of e) l
same_end [] (y ∷ ys) s t e l = let n = ap length e in let m = length-append ys t in absurd (omega (arith, n, m, l))
same_end (x ∷ xs) [] s t e l = let n = ap length e in let m = length-append xs s in absurd (omega (arith, n, m, l))

one_end : (q s t : Path) → Ends s q → Ends t q → length s ≡ length t → s ≡ t
unfolding Ends
one_end q s t (xs, e) (ys, f) l = same_end xs ys s t (sym e ∙ f) l

-- a path ends as its end does
ends_deeper : (q p : Path) (k : ℕ) → Ends (k ∷ p) q → Ends p q
unfolding Ends
ends_deeper q p k (xs, e) = (xs ++ k ∷ [], e ∙ sym (assoc xs))
  where
    assoc : (xs : Path) → (xs ++ k ∷ []) ++ p ≡ xs ++ k ∷ p
    assoc [] = refl
    assoc (x ∷ xs) = ap (λ z. x ∷ z) (assoc xs)

ends_longer : (q s : Path) → Ends s q → length s ≤ length q
unfolding Ends
ends_longer q s (xs, e) = let n = ap length e in let m = length-append xs s in omega (arith, n, m)

ends_itself : (s : Path) → Ends s s
unfolding Ends
ends_itself s = ([], refl)

-- ---- lists of objects with their paths

-- each path ends in one number of these and this path
record UnderFrom (p : Path) (k : ℕ) (xs : List (Object × Path)) : Type 0 where
  each : (o : Object) (q : Path) → Among (o, q) xs → (m : ℕ) × (k ≤ m) × Ends (m ∷ p) q

-- what has one path is one object
pub record Once (xs : List (Object × Path)) : Type 0 where
  pub one : (o k : Object) (q : Path) → Among (o, q) xs → Among (k, q) xs → o ≡ k

under_none : (p : Path) (k : ℕ) → UnderFrom p k []
under_none p k = record { each = λ o q i. absurd i }

once_none : Once []
once_none = record { one = λ o k q i j. absurd i }

head_inj : (j k : ℕ) (p : Path) → ◌≡◌ {A = Path} (j ∷ p) (k ∷ p) → j ≡ k
head_inj j k p e = ap head e
  where
    head : Path → ℕ
    head [] = 0
    head (x ∷ xs) = x

module _ (o : Object) (p : Path) (j : ℕ) (inner next : List (Object × Path)) (below : UnderFrom (j ∷ p) 0 inner) (beside : UnderFrom p (suc j) next) where
  abbrev node : List (Object × Path)
  node = (o, j ∷ p) ∷ (inner ++ next)

  -- the path of the object itself, or of one inside it, ends in its own
  ends_here : (k : Object) (q : Path) → Among (k, q) inner → Ends (j ∷ p) q
  ends_here k q i = let b = below.each k q i in ends_deeper q (j ∷ p) b.0 b.2

  under_node : UnderFrom p j node
  under_node = record { each = go }
    where
      go : (k : Object) (q : Path) → Among (k, q) node → (m : ℕ) × (j ≤ m) × Ends (m ∷ p) q
      go k q (inl e) = (j, omega arith, subst (Ends (j ∷ p)) (sym (ap (λ z. z.1) e)) (ends_itself (j ∷ p)))
      go k q (inr i) = elim (among_split (k, q) inner next i) [
        | inl a ↦ (j, omega arith, ends_here k q a)
        | inr a ↦ let b = beside.each k q a in let l = b.1 in (b.0, omega (arith, l), b.2)
      ]

  -- the objects beside have other paths
  not_beside : (q : Path) → Ends (j ∷ p) q → (k : Object) → Among (k, q) next → ⊥
  not_beside q e k i =
      let b = beside.each k q i in
      let same = head_inj j b.0 p (one_end q (j ∷ p) (b.0 ∷ p) e b.2 refl) in
      let l = b.1 in
      omega (arith, same, l)

  -- and so have those inside
  not_inside : (k : Object) → Among (k, j ∷ p) inner → ⊥
  not_inside k i = let b = below.each k (j ∷ p) i in let l = ends_longer (j ∷ p) (b.0 ∷ j ∷ p) b.2 in omega (arith, l)

  once_node : Once inner → Once next → Once node
  once_node x y = record { one = go }
    where
      deep : (k m : Object) (q : Path) → Among (k, q) (inner ++ next) → Among (m, q) (inner ++ next) → k ≡ m
      deep k m q a b = elim (among_split (k, q) inner next a) [
        | inl s ↦ elim (among_split (m, q) inner next b) [ inl t ↦ x.one k m q s t | inr t ↦ absurd (not_beside q (ends_here k q s) m t) ]
        | inr s ↦ elim (among_split (m, q) inner next b) [ inl t ↦ absurd (not_beside q (ends_here m q t) k s) | inr t ↦ y.one k m q s t ]
      ]

      mixed : (k m : Object) (q : Path) → ◌≡◌ {A = Object × Path} (k, q) (o, j ∷ p) → Among (m, q) (inner ++ next) → ⊥
      mixed k m q e b =
          let at = ap (λ z. z.1) e in
          elim (among_split (m, j ∷ p) inner next (subst (λ z. Among (m, z) (inner ++ next)) at b)) [ inl t ↦ not_inside m t | inr t ↦ not_beside (j ∷ p) (ends_itself (j ∷ p)) m t ]

      go : (k m : Object) (q : Path) → Among (k, q) node → Among (m, q) node → k ≡ m
      go k m q (inl e) (inl f) = ap (λ z. z.0) e ∙ sym (ap (λ z. z.0) f)
      go k m q (inl e) (inr b) = absurd (mixed k m q e b)
      go k m q (inr a) (inl f) = absurd (mixed m k q f a)
      go k m q (inr a) (inr b) = deep k m q a b

mutual
  under_regions : (p : Path) (j : ℕ) (rs : PtrRegions) → UnderFrom p j (placed_regions p j rs)
  under_regions p j no_regions = under_none p j
  under_regions p j (forest.region r bs rs) = under_node (TheRegion r) p j (placed_blocks (j ∷ p) 0 bs) (placed_regions p (suc j) rs) (under_blocks (j ∷ p) 0 bs) (under_regions p (suc j) rs)

  under_blocks : (p : Path) (j : ℕ) (bs : PtrBlocks) → UnderFrom p j (placed_blocks p j bs)
  under_blocks p j no_blocks = under_none p j
  under_blocks p j (forest.block b os bs) = under_node (TheBlock b) p j (placed_operations (j ∷ p) 0 os) (placed_blocks p (suc j) bs) (under_operations (j ∷ p) 0 os) (under_blocks p (suc j) bs)

  under_operations : (p : Path) (j : ℕ) (os : PtrOperations) → UnderFrom p j (placed_operations p j os)
  under_operations p j no_operations = under_none p j
  under_operations p j (forest.operation q rs os) = under_node (TheOperation q) p j (placed_regions (j ∷ p) 0 rs) (placed_operations p (suc j) os) (under_regions (j ∷ p) 0 rs) (under_operations p (suc j) os)

mutual
  pub once_regions : (p : Path) (j : ℕ) (rs : PtrRegions) → Once (placed_regions p j rs)
  once_regions p j no_regions = once_none
  once_regions p j (forest.region r bs rs) = once_node (TheRegion r) p j (placed_blocks (j ∷ p) 0 bs) (placed_regions p (suc j) rs) (under_blocks (j ∷ p) 0 bs) (under_regions p (suc j) rs) (once_blocks (j ∷ p) 0 bs) (once_regions p (suc j) rs)

  once_blocks : (p : Path) (j : ℕ) (bs : PtrBlocks) → Once (placed_blocks p j bs)
  once_blocks p j no_blocks = once_none
  once_blocks p j (forest.block b os bs) = once_node (TheBlock b) p j (placed_operations (j ∷ p) 0 os) (placed_blocks p (suc j) bs) (under_operations (j ∷ p) 0 os) (under_blocks p (suc j) bs) (once_operations (j ∷ p) 0 os) (once_blocks p (suc j) bs)

  once_operations : (p : Path) (j : ℕ) (os : PtrOperations) → Once (placed_operations p j os)
  once_operations p j no_operations = once_none
  once_operations p j (forest.operation q rs os) = once_node (TheOperation q) p j (placed_regions (j ∷ p) 0 rs) (placed_operations p (suc j) os) (under_regions (j ∷ p) 0 rs) (under_operations p (suc j) os) (once_regions (j ∷ p) 0 rs) (once_operations p (suc j) os)

-- each object under a root has a path of its own
pub once_under : (t : Root (Ptr Operation) (Ptr BasicBlock) (Ptr Region)) → Once (placed_under t)
once_under t = record { one = go }
  where
    inner : List (Object × Path)
    inner = placed_regions [] 0 t.regions

    mixed : (k m : Object) (q : Path) → ◌≡◌ {A = Object × Path} (k, q) (TheOperation t.own, []) → Among (m, q) (placed_regions [] 0 t.regions) → ⊥
    mixed k m q e b =
        let x = (under_regions [] 0 t.regions).each m q b in
        let l = ends_longer q (x.0 ∷ []) x.2 in
        let n = ap (λ z. length z.1) e in
        omega (arith, l, n)

    go : (k m : Object) (q : Path) → Among (k, q) (placed_under t) → Among (m, q) (placed_under t) → k ≡ m
    go k m q (inl e) (inl f) = ap (λ z. z.0) e ∙ sym (ap (λ z. z.0) f)
    go k m q (inl e) (inr b) = absurd (mixed k m q e b)
    go k m q (inr a) (inl f) = absurd (mixed m k q f a)
    go k m q (inr a) (inr b) = (once_regions [] 0 t.regions).one k m q a b

-- ---- an object in the list is found
pub path_found : (all : List (Object × Path)) (o : Object) (q : Path) → Among (o, q) all → (p : Path) × (path_of all o ≡ Some p) × Among (o, p) all
path_found [] o q i = absurd i
path_found (e ∷ es) o q i = go (λ j. path_found es o q j) (eq_object e.0 o) refl i
  where
    go : (Among (o, q) es → (p : Path) × (path_of es o ≡ Some p) × Among (o, p) es) → (b : Bool) → eq_object e.0 o ≡ b → Among (o, q) (e ∷ es) → (p : Path) × (path_of (e ∷ es) o ≡ Some p) × Among (o, p) (e ∷ es)
    go later true s i = (e.1, ap (λ b. cond b (Some e.1) (path_of es o)) s, subst (λ z. Among (z, e.1) (e ∷ es)) (object_tells.sound e.0 o s) (inl refl))
    go later false s (inl f) = absurd (let same = ap (λ z. eq_object z o) (sym (ap (λ z. z.0) f)) ∙ object_tells.same o in cc)
    go later false s (inr j) = let r = later j in (r.0, ap (λ b. cond b (Some e.1) (path_of es o)) s ∙ r.1, inr r.2)
