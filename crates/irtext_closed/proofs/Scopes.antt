-- The innermost isolated region around an object.
use Rattle.std.proofs.Common.{◌≡◌, ◌≢◌, ◌∙◌, ℕ, zero, suc, refl, sym, ap, subst, arith, Bool, true, false, Option, Some, None}
use Rattle.std.specs.Prelude.{◌+◌}
use Rattle.irtext_graph.specs.declared.object.Object.{Object}
use Rattle.irtext_graph.specs.Graph.{GraphView, parent, children, content, IsInside}
use Rattle.irtext_graph.specs.Nested.{climb, Nested}
use Rattle.irtext_graph.proofs.Inside.{within_self, within_up, within_on}
use Rattle.irtext_graph.proofs.Nests.{climb-none, climb-add, some_eq}
use Rattle.irtext_graph.proofs.Rank.{no_cycle}
use Rattle.irtext_closed.specs.Closing.{is_isolated, IsBarrier, IsScope, Shares}

-- what a call returned is the parent of the object in the context's graph
pub parent_is : {O B T : Type 0} (x y : GraphView O B T) (o : Object) (found up : Option Object) → x ≡ y → found ≡ parent x o → found ≡ up → parent y o ≡ up
parent_is x y o found up same is found_is = subst (λ z. parent z o ≡ up) same (sym is ∙ found_is)

module _ {O B T : Type 0} (isolated : O → Bool) (g : GraphView O B T) where
  -- up to `at`, no isolated region was met on the way up from o
  pub record Climbed (o at : Object) : Type 0 where
    pub inside : IsInside g at o
    pub later : (s : Object) → IsBarrier isolated g s → IsInside g s o → IsInside g s at

  -- what is around x and is not x is around its parent
  above : (x k s : Object) → parent g x ≡ Some k → s ≢ x → IsInside g s x → IsInside g s k
  above x k s e ne w = go w.0 w.1
    where
      go : (n : ℕ) → climb (parent g) n (Some x) ≡ Some s → IsInside g s k
      go zero f = absurd (ne (sym (some_eq f)))
      go (suc n) f = (n, ap (climb (parent g) n) (sym e) ∙ f)

  pub climbs_on : (o x k : Object) → Climbed o x → parent g x ≡ Some k → is_isolated isolated (content g k) ≡ false → Climbed o k
  climbs_on o x k c e open_ = record {
    inside = within_on (parent g) k x o (within_up (parent g) k x k e (within_self (parent g) k)) c.inside;
    later = λ s b w. above x k s e (λ same.
        let held : Some k ≡ Some b.holder = sym e ∙ ap (parent g) (sym same) ∙ b.held in
        let closes : is_isolated isolated (content g k) ≡ true = ap (λ h. is_isolated isolated (content g h)) (some_eq held) ∙ b.closes in
        let opens = open_ in
        cc) (c.later s b w);
  }

  -- the scope of what was reached on the way up
  pub climbed_scope : (o at : Object) (x : Option Object) → Climbed o at → IsScope isolated g at x → IsScope isolated g o x
  climbed_scope o at None c p = λ r b w. p r b (c.later r b w)
  climbed_scope o at (Some s) c p = (p.0, within_on (parent g) s at o p.1 c.inside, λ r b w. p.2 r b (c.later r b w))

  pub climbs_out : (o x : Object) → Climbed o x → parent g x ≡ None → IsScope isolated g o None
  climbs_out o x c e = λ r b w. go r b (c.later r b w).0 (c.later r b w).1
    where
      go : (r : Object) → IsBarrier isolated g r → (n : ℕ) → climb (parent g) n (Some x) ≡ Some r → ⊥
      go r b zero f = let held : parent g x ≡ Some b.holder = ap (parent g) (some_eq f) ∙ b.held in let none = e in cc
      go r b (suc n) f = let on : climb (parent g) n (parent g x) ≡ climb (parent g) n None = ap (climb (parent g) n) e in let none = climb-none (parent g) n in cc

  -- two objects that are in each other are the same
  both_ways : Nested (children g) (parent g) → (r s : Object) → IsInside g r s → IsInside g s r → r ≡ s
  both_ways nested r s w v = go w.0 w.1
    where
      go : (n : ℕ) → climb (parent g) n (Some s) ≡ Some r → r ≡ s
      go zero e = sym (some_eq e)
      go (suc n) e =
          let z : suc n + v.0 ≡ suc (n + v.0) = omega arith in
          let round : climb (parent g) (suc (n + v.0)) (Some s) ≡ Some s = ap (λ (k : ℕ). climb (parent g) k (Some s)) (sym z) ∙ climb-add (parent g) (suc n) v.0 (Some s) ∙ ap (climb (parent g) v.0) e ∙ v.1 in
          let d = nested.ends s in
          absurd (no_cycle (parent g) s (n + v.0) round d.0 d.0 (omega arith) d.1)

  -- two objects are in the same isolated scope exactly if the innermost isolated regions around them are the same
  pub same_scope : (a b : Object) (x y : Option Object) → IsScope isolated g a x → IsScope isolated g b y → x ≡ y → Shares isolated g a b
  same_scope a b None None p q e = λ r i. (λ w. absurd (p r i w), λ w. absurd (q r i w))
  same_scope a b None (Some y) p q e = absurd (cc)
  same_scope a b (Some x) None p q e = absurd (cc)
  same_scope a b (Some x) (Some y) p q e = λ r i. (
    λ w. within_on (parent g) r y b (subst (λ z. IsInside g r z) (some_eq e) (p.2 r i w)) q.1,
    λ w. within_on (parent g) r x a (subst (λ z. IsInside g r z) (sym (some_eq e)) (q.2 r i w)) p.1,
  )

  pub scope_same : Nested (children g) (parent g) → (a b : Object) (x y : Option Object) → IsScope isolated g a x → IsScope isolated g b y → Shares isolated g a b → x ≡ y
  scope_same nested a b None None p q s = refl
  scope_same nested a b None (Some y) p q s = absurd (p y q.0 ((s y q.0).1 q.1))
  scope_same nested a b (Some x) None p q s = absurd (q x p.0 ((s x p.0).0 p.1))
  scope_same nested a b (Some x) (Some y) p q s = ap Some (both_ways nested x y (q.2 x p.0 ((s x p.0).0 p.1)) (p.2 y q.0 ((s y q.0).1 q.1)))
