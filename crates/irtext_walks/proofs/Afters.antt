-- What comes inside an object of a graph after another one, in both orders.
use Rattle.std.proofs.Common.{◌≡◌, ◌≢◌, ◌+◌, ◌∙◌, ◌++◌, ℕ, suc, sym, ap, subst, arith, inl, inr, true, false, Option, Some, None, List, [], slice_get}
use Rattle.std.specs.Prelude.{is_some}
use Rattle.std.proofs.lemmas.List.{append-nil}
use Rattle.irtext_graph.specs.declared.object.Object.{Object}
use Rattle.irtext_graph.specs.Graph.{GraphView, parent, children, IsInside}
use Rattle.irtext_graph.specs.Nested.{Nested}
use Rattle.irtext_graph.specs.Objects.{eq_object}
use Rattle.irtext_graph.specs.Preorder.{after_inside, subtree}
use Rattle.irtext_graph.specs.Throughout.{places, all_from}
use Rattle.irtext_graph.proofs.Inside.{within_up}
use Rattle.irtext_graph.proofs.Nests.{seen}
use Rattle.irtext_graph.proofs.Preorders as pre
use Rattle.irtext_graph.proofs.Same.{object_tells}
use Rattle.irtext_walks.specs.Postorder.{postorder_of, post_after, post_from}
use Rattle.irtext_walks.specs.Walks.{all_in, IsLiveInside, IsAtLive}
use Rattle.irtext_walks.proofs.Forests.{short, child_not, child_lives}
use Rattle.irtext_walks.proofs.Postorders as post

-- what comes inside o after an object and everything nested in it
abbrev pub rest : {O B T : Type 0} → GraphView O B T → Object → Object → List Object
rest g o q = after_inside eq_object (children g) (parent g) (suc (places g)) o (suc (places g)) (Some q)

module _ {O B T : Type 0} (g : GraphView O B T) (s : Nested (children g) (parent g)) where
  pub rest_end : (o : Object) → rest g o o ≡ []
  rest_end o = pre.rest_end eq_object object_tells s o (places g) (short g s)

  -- from an object on comes all that is in it, and then the rest
  pub split : (o q : Object) → all_from g o (Some q) ≡ all_in g q ++ rest g o q
  split o q = ap (λ ys. ys ++ rest g o q) (sym (append-nil (subtree (children g) (suc (places g)) q))
      ∙ ap (λ ys. subtree (children g) (suc (places g)) q ++ ys) (sym (rest_end q)))

  pub rest_next : (o q k d : Object) (i : ℕ) → q ≢ o → IsInside g o k → slice_get (children g k) i ≡ Some q → slice_get (children g k) (suc i) ≡ Some d
      → rest g o q ≡ all_from g o (Some d)
  rest_next o q k d i n w e f = pre.from_next eq_object object_tells s o (places g) (short g s) q k d i n (child_not g s o k d w (s.down k (suc i) d f)) e f

  pub rest_last : (o q k : Object) (i : ℕ) → q ≢ o → slice_get (children g k) i ≡ Some q → slice_get (children g k) (suc i) ≡ None → rest g o q ≡ rest g o k
  rest_last o q k i n e f = pre.from_last eq_object object_tells s o (places g) (short g s) q k i n e f

  -- the same in postorder
  pub post_end : (o : Object) → post_after g o (Some o) ≡ []
  post_end o = post.rest_end eq_object object_tells s o (places g) (short g s)

  pub post_leaf : (o q : Object) → children g q ≡ [] → postorder_of g q ++ post_after g o (Some q) ≡ post_from g o (Some q)
  post_leaf o q e = post.from_leaf eq_object object_tells s o (places g) (short g s) q e

  pub post_first : (o q c : Object) → IsInside g o q → slice_get (children g q) 0 ≡ Some c
      → postorder_of g q ++ post_after g o (Some q) ≡ postorder_of g c ++ post_after g o (Some c)
  post_first o q c w e = post.from_first eq_object object_tells s o (places g) (short g s) q c e (child_not g s o q c w (s.down q 0 c e))

  pub post_next : (o q k d : Object) (i : ℕ) → q ≢ o → IsInside g o k → slice_get (children g k) i ≡ Some q → slice_get (children g k) (suc i) ≡ Some d
      → post_after g o (Some q) ≡ postorder_of g d ++ post_after g o (Some d)
  post_next o q k d i n w e f = post.from_next eq_object object_tells s o (places g) (short g s) q k d i n (child_not g s o k d w (s.down k (suc i) d f)) e f

  pub post_last : (o q k : Object) (i : ℕ) → q ≢ o → slice_get (children g k) i ≡ Some q → slice_get (children g k) (suc i) ≡ None
      → post_after g o (Some q) ≡ post_from g o (Some k)
  post_last o q k i n e f = post.from_last eq_object object_tells s o (places g) (short g s) q k i n e f

  -- the sibling after q, which is no o, if there is one
  module _ (o q k : Object) (r : Option Object) (ne : q ≢ o) (up : parent g q ≡ Some k)
      (next : (i : ℕ) → slice_get (children g k) i ≡ Some q → r ≡ slice_get (children g k) (i + 1)) where
    beside : (i : ℕ) × (slice_get (children g k) i ≡ Some q) × (r ≡ slice_get (children g k) (suc i))
    beside =
        let i = s.listed q k up in
        let z : i.0 + 1 ≡ suc i.0 = omega arith in
        (i.0, i.1, next i.0 i.1 ∙ ap (slice_get (children g k)) z)

    pub rest_beside : (d : Object) → IsInside g o k → r ≡ Some d → rest g o q ≡ all_from g o (Some d)
    rest_beside d w e = let i = beside in rest_next o q k d i.0 ne w i.1 (sym i.2 ∙ e)

    pub rest_none : r ≡ None → rest g o q ≡ rest g o k
    rest_none e = let i = beside in rest_last o q k i.0 ne i.1 (sym i.2 ∙ e)

    pub post_beside : (d : Object) → IsInside g o k → r ≡ Some d → post_after g o (Some q) ≡ postorder_of g d ++ post_after g o (Some d)
    post_beside d w e = let i = beside in post_next o q k d i.0 ne w i.1 (sym i.2 ∙ e)

    pub post_none : r ≡ None → post_after g o (Some q) ≡ post_from g o (Some k)
    post_none e = let i = beside in post_last o q k i.0 ne i.1 (sym i.2 ∙ e)

    pub there_beside : (d : Object) → IsInside g o k → r ≡ Some d → IsLiveInside g o d
    there_beside d w e =
        let i = beside in
        let f = s.down k (suc i.0) d (sym i.2 ∙ e) in
        record { alive = child_lives g d k f; within = within_up (parent g) o d k f w }

    -- the same of the step past q from an object at
    pub found_next : (at : Object) → rest g o at ≡ rest g o q → IsInside g o k → is_some r ≡ true → all_from g o (Some at) ≡ all_in g at ++ all_from g o r
    found_next at same w e = elim (seen r) [
      | inl none ↦ absurd (let f = ap is_some none in cc)
      | inr (d, f) ↦ split o at ∙ ap (λ ys. all_in g at ++ ys) (same ∙ rest_beside d w f ∙ ap (all_from g o) (sym f))
    ]

    pub found_there : IsInside g o k → is_some r ≡ true → IsAtLive g o r
    found_there w e = elim (seen r) [
      | inl none ↦ absurd (let f = ap is_some none in cc)
      | inr (d, f) ↦ subst (IsAtLive g o) (sym f) (there_beside d w f)
    ]

    pub found_none : (at : Object) → rest g o at ≡ rest g o q → is_some r ≡ false → rest g o at ≡ rest g o k
    found_none at same e = elim (seen r) [
      | inl none ↦ same ∙ rest_none none
      | inr (d, f) ↦ absurd (let h = ap is_some f in cc)
    ]

  -- nothing comes after all of o
  pub found_end : (o at q : Object) → rest g o at ≡ rest g o q → q ≡ o → all_from g o (Some at) ≡ all_in g at ++ []
  found_end o at q same e = split o at ∙ ap (λ ys. all_in g at ++ ys) (same ∙ ap (rest g o) e ∙ rest_end o)
