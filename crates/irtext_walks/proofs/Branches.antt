-- Each object in an object comes once, in both orders.
use Rattle.std.proofs.Common.{◌≡◌, ◌∙◌, ◌+◌, ◌++◌, ◌⊎◌, ℕ, zero, suc, refl, sym, ap, subst, inl, inr, arith, Option, Some, List, [], ◌∷◌, slice_get}
use Rattle.std.proofs.lemmas.List.{append-nil}
use Rattle.irtext_graph.specs.declared.object.Object.{Object}
use Rattle.irtext_graph.specs.Chained.{Among, Lists}
use Rattle.irtext_graph.specs.Graph.{GraphView, parent, children, IsInside}
use Rattle.irtext_graph.specs.Nested.{climb, Within, Nested}
use Rattle.irtext_graph.specs.Preorder.{flat, subtree}
use Rattle.irtext_graph.specs.Throughout.{places}
use Rattle.irtext_graph.proofs.Inside.{within_self, within_up, within_on}
use Rattle.irtext_graph.proofs.Nests.{some_eq, climb-add}
use Rattle.irtext_graph.proofs.Preorders.{inside_among}
use Rattle.irtext_graph.proofs.Rank.{no_cycle}
use Rattle.irtext_walks.specs.Postorder.{postorder, postorder_of}
use Rattle.irtext_walks.specs.Walks.{all_in}
use Rattle.irtext_walks.proofs.Afters.{rest_end}
use Rattle.irtext_walks.proofs.Forests.{short}
use Rattle.irtext_walks.proofs.Listed.{Differ, once_of, differ_append, differ_flat}
use Rattle.irtext_walks.proofs.Postorders.{climb_next, from_flat, comes_inside, inside_comes}

-- two numbers are the same, or one is greater
compare : (n m : ℕ) → (n ≡ m) ⊎ (((k : ℕ) × (m ≡ suc n + k)) ⊎ ((k : ℕ) × (n ≡ suc m + k)))
compare zero zero = inl refl
compare zero (suc m) = inr (inl (m, omega arith))
compare (suc n) zero = inr (inr (n, omega arith))
compare (suc n) (suc m) = elim (compare n m) [
  | inl e ↦ inl (ap suc e)
  | inr r ↦ elim r [ inl (k, e) ↦ inr (inl (k, omega (arith, e))) | inr (k, e) ↦ inr (inr (k, omega (arith, e))) ]
]

module _ {O : Type 0} {kids : O → List O} {up : O → Option O} (s : Nested kids up) where
  -- no object is nested in its child
  no_round : (x c : O) → up c ≡ Some x → Within up c x → ⊥
  no_round x c e w = let d = s.ends x in no_cycle up x w.0 (climb_next up w.0 (Some x) c w.1 ∙ e) d.0 d.0 (omega arith) d.1

  -- a longer way up from q than to a child c of x is one from x
  longer : (x c d q : O) (n m k : ℕ) → up c ≡ Some x → climb up n (Some q) ≡ Some c → climb up m (Some q) ≡ Some d → m ≡ suc n + k → Within up d x
  longer x c d q n m k e v w z =
      let here : climb up (suc n) (Some q) ≡ Some x = climb_next up n (Some q) c v ∙ e in
      (k, sym (ap (climb up k) here) ∙ sym (climb-add up (suc n) k (Some q)) ∙ ap (λ (j : ℕ). climb up j (Some q)) (sym z) ∙ w)

  -- an object is nested in one child alone
  one_branch : (x c d q : O) → up c ≡ Some x → up d ≡ Some x → Within up c q → Within up d q → c ≡ d
  one_branch x c d q e f v w = elim (compare v.0 w.0) [
    | inl same ↦ some_eq (sym v.1 ∙ ap (λ (n : ℕ). climb up n (Some q)) same ∙ w.1)
    | inr r ↦ elim r [
      | inl (k, z) ↦ absurd (no_round x d f (longer x c d q v.0 w.0 k e v.1 w.1 z))
      | inr (k, z) ↦ absurd (no_round x c e (longer x d c q w.0 v.0 k f w.1 v.1 z))
    ]
  ]

  -- the children in whose lists an object comes are one
  one_child : (f : O → List O) (x : O) → ((q c : O) → Among q (f c) → Within up c q)
      → (i j : ℕ) (c d q : O) → slice_get (kids x) i ≡ Some c → slice_get (kids x) j ≡ Some d → Among q (f c) → Among q (f d) → i ≡ j
  one_child f x inside i j c d q e h a b =
      let same = one_branch x c d q (s.down x i c e) (s.down x j d h) (inside q c a) (inside q d b) in
      s.once x i j c e (h ∙ ap Some (sym same))

  -- what comes in an object in preorder is inside it
  pub pre_inside : (n : ℕ) (q x : O) → Among q (subtree kids n x) → Within up x q
  pre_inside zero q x m = absurd m
  pre_inside (suc n) q x (inl e) = (zero, ap Some e)
  pre_inside (suc n) q x (inr m) =
      let r = from_flat (subtree kids n) q (kids x) m in
      within_on up x r.0 q (within_up up x r.0 x (s.down x r.1.0 r.0 r.1.1) (within_self up x)) (pre_inside n q r.0 r.2)

  pub pre_differ : (n : ℕ) (x : O) → Differ (subtree kids n x)
  pre_differ zero x = tt
  pre_differ (suc n) x = (
    λ m. let r = from_flat (subtree kids n) x (kids x) m in no_round x r.0 (s.down x r.1.0 r.0 r.1.1) (pre_inside n x r.0 r.2),
    differ_flat (subtree kids n) (kids x) (λ i c e. pre_differ n c) (one_child (subtree kids n) x (λ q c a. pre_inside n q c a)),
  )

  pub post_differ : (n : ℕ) (x : O) → Differ (postorder kids n x)
  post_differ zero x = tt
  post_differ (suc n) x =
      differ_append (flat (postorder kids n) (kids x)) (x ∷ [])
      (differ_flat (postorder kids n) (kids x) (λ i c e. post_differ n c) (one_child (postorder kids n) x (λ q c a. comes_inside s n q c a)))
      (λ m. m, tt)
      (λ q a b. elim b [
        | inl e ↦
            let r = from_flat (postorder kids n) q (kids x) a in
            no_round x r.0 (s.down x r.1.0 r.0 r.1.1) (subst (Within up r.0) e (comes_inside s n q r.0 r.2))
        | inr none ↦ none
      ])

module _ {O B T : Type 0} (g : GraphView O B T) (s : Nested (children g) (parent g)) (o : Object) where
  -- the objects in o are in both lists, each once
  pub all_listed : Lists (IsInside g o) (all_in g o)
  all_listed =
      let tree = subtree (children g) (suc (places g)) o in
      let same : all_in g o ≡ tree = ap (λ ys. tree ++ ys) (rest_end g s o) ∙ append-nil tree in
      subst (Lists (IsInside g o)) (sym same) (record {
        all = λ q w. inside_among s (suc (places g)) w.0 q o w.1 (let k = short g s w.0 q o w.1 in omega (arith, k));
        only = λ q m. pre_inside s (suc (places g)) q o m;
        once = once_of tree (pre_differ s (suc (places g)) o);
      })

  pub post_listed : Lists (IsInside g o) (postorder_of g o)
  post_listed = record {
    all = λ q w. inside_comes s (suc (places g)) w.0 q o w.1 (let k = short g s w.0 q o w.1 in omega (arith, k));
    only = λ q m. comes_inside s (suc (places g)) q o m;
    once = once_of (postorder_of g o) (post_differ s (suc (places g)) o);
  }
