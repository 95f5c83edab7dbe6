-- Lists in which each item comes once, and those of one kind in them.
use Rattle.std.proofs.Common.{◌≡◌, ℕ, zero, suc, refl, sym, ap, subst, inl, inr, arith, Some, List, [], ◌∷◌, ◌++◌, slice_get}
use Rattle.irtext_graph.specs.declared.arena.Ptr.{Ptr}
use Rattle.irtext_graph.specs.declared.object.BasicBlock.{BasicBlock}
use Rattle.irtext_graph.specs.declared.object.Object.{Object}
use Rattle.irtext_graph.specs.declared.object.Object.TheVariants.{TheOperation, TheBlock, TheRegion}
use Rattle.irtext_graph.specs.declared.object.Operation.{Operation}
use Rattle.irtext_graph.specs.Chained.{Among, Lists}
use Rattle.irtext_graph.specs.Preorder.{flat}
use Rattle.irtext_graph.proofs.Nests.{some_eq}
use Rattle.irtext_graph_queries.specs.Nested.{operations_among}
use Rattle.irtext_walks.specs.Kinds.{blocks_among}
use Rattle.irtext_walks.proofs.Postorders.{in_either, from_flat}

module _ {X : Type 0} where
  -- no item comes twice
  abbrev pub Differ : List X → Type 0
  Differ [] = Unit {0}
  Differ (x ∷ xs) = (Among x xs → ⊥) × Differ xs

  among_at : (u : X) (us : List X) (i : ℕ) → slice_get us i ≡ Some u → Among u us
  among_at u [] i e = absurd (cc)
  among_at u (x ∷ us) zero e = inl (sym (some_eq e))
  among_at u (x ∷ us) (suc i) e = inr (among_at u us i e)

  at_among : (u : X) (us : List X) → Among u us → (i : ℕ) × (slice_get us i ≡ Some u)
  at_among u [] m = absurd m
  at_among u (x ∷ us) (inl e) = (zero, ap Some (sym e))
  at_among u (x ∷ us) (inr m) = let r = at_among u us m in (suc r.0, r.1)

  -- the same by indices
  pub once_of : (us : List X) → Differ us → (i j : ℕ) (u : X) → slice_get us i ≡ Some u → slice_get us j ≡ Some u → i ≡ j
  once_of [] d i j u e f = absurd (cc)
  once_of (x ∷ us) d zero zero u e f = refl
  once_of (x ∷ us) d zero (suc j) u e f = absurd (d.0 (subst (λ y. Among y us) (sym (some_eq e)) (among_at u us j f)))
  once_of (x ∷ us) d (suc i) zero u e f = absurd (d.0 (subst (λ y. Among y us) (sym (some_eq f)) (among_at u us i e)))
  once_of (x ∷ us) d (suc i) (suc j) u e f = ap suc (once_of us d.1 i j u e f)

  differ_of : (us : List X) → ((i j : ℕ) (u : X) → slice_get us i ≡ Some u → slice_get us j ≡ Some u → i ≡ j) → Differ us
  differ_of [] once = tt
  differ_of (x ∷ us) once = (
    λ m. let r = at_among x us m in let k : 0 ≡ suc r.0 = once 0 (suc r.0) x refl r.1 in omega (arith, k),
    differ_of us (λ i j u e f. let k = once (suc i) (suc j) u e f in omega (arith, k)),
  )

  pub differ_append : (xs ys : List X) → Differ xs → Differ ys → ((q : X) → Among q xs → Among q ys → ⊥) → Differ (xs ++ ys)
  differ_append [] ys d e apart = e
  differ_append (x ∷ xs) ys d e apart = (
    λ m. elim (in_either x xs ys m) [ inl a ↦ d.0 a | inr b ↦ apart x (inl refl) b ],
    differ_append xs ys d.1 e (λ q a b. apart q (inr a) b),
  )

  pub differ_flat : (f : X → List X) (xs : List X) → ((i : ℕ) (c : X) → slice_get xs i ≡ Some c → Differ (f c))
      → ((i j : ℕ) (c d q : X) → slice_get xs i ≡ Some c → slice_get xs j ≡ Some d → Among q (f c) → Among q (f d) → i ≡ j) → Differ (flat f xs)
  differ_flat f [] here apart = tt
  differ_flat f (x ∷ xs) here apart = differ_append (f x) (flat f xs) (here 0 x refl)
      (differ_flat f xs (λ i c e. here (suc i) c e) (λ i j c d q e h a b. let k = apart (suc i) (suc j) c d q e h a b in omega (arith, k)))
      (λ q a b. let r = from_flat f q xs b in let k : 0 ≡ suc r.1.0 = apart 0 (suc r.1.0) x r.0 q refl r.1.1 a r.2 in omega (arith, k))

-- an operation is among the operations if, and only if, it is among the objects
among_operations : (p : Ptr Operation) (os : List Object) → Among (TheOperation p) os → Among p (operations_among os)
among_operations p [] m = absurd m
among_operations p (TheOperation q ∷ os) (inl e) = inl (cc e)
among_operations p (TheOperation q ∷ os) (inr m) = inr (among_operations p os m)
among_operations p (TheBlock b ∷ os) (inl e) = absurd (cc)
among_operations p (TheBlock b ∷ os) (inr m) = among_operations p os m
among_operations p (TheRegion r ∷ os) (inl e) = absurd (cc)
among_operations p (TheRegion r ∷ os) (inr m) = among_operations p os m

operations_from : (p : Ptr Operation) (os : List Object) → Among p (operations_among os) → Among (TheOperation p) os
operations_from p [] m = absurd m
operations_from p (TheOperation q ∷ os) (inl e) = inl (ap TheOperation e)
operations_from p (TheOperation q ∷ os) (inr m) = inr (operations_from p os m)
operations_from p (TheBlock b ∷ os) m = inr (operations_from p os m)
operations_from p (TheRegion r ∷ os) m = inr (operations_from p os m)

operations_differ : (os : List Object) → Differ os → Differ (operations_among os)
operations_differ [] d = tt
operations_differ (TheOperation p ∷ os) d = (λ m. d.0 (operations_from p os m), operations_differ os d.1)
operations_differ (TheBlock b ∷ os) d = operations_differ os d.1
operations_differ (TheRegion r ∷ os) d = operations_differ os d.1

-- the operations in a list of all objects with a property are all operations with it
pub operations_listed : (P : Object → Type 0) (os : List Object) → Lists P os → Lists (λ p. P (TheOperation p)) (operations_among os)
operations_listed P os l = record {
  all = λ p h. among_operations p os (l.all (TheOperation p) h);
  only = λ p m. l.only (TheOperation p) (operations_from p os m);
  once = once_of (operations_among os) (operations_differ os (differ_of os l.once));
}

-- the same of blocks
among_blocks : (b : Ptr BasicBlock) (os : List Object) → Among (TheBlock b) os → Among b (blocks_among os)
among_blocks b [] m = absurd m
among_blocks b (TheBlock c ∷ os) (inl e) = inl (cc e)
among_blocks b (TheBlock c ∷ os) (inr m) = inr (among_blocks b os m)
among_blocks b (TheOperation p ∷ os) (inl e) = absurd (cc)
among_blocks b (TheOperation p ∷ os) (inr m) = among_blocks b os m
among_blocks b (TheRegion r ∷ os) (inl e) = absurd (cc)
among_blocks b (TheRegion r ∷ os) (inr m) = among_blocks b os m

blocks_from : (b : Ptr BasicBlock) (os : List Object) → Among b (blocks_among os) → Among (TheBlock b) os
blocks_from b [] m = absurd m
blocks_from b (TheBlock c ∷ os) (inl e) = inl (ap TheBlock e)
blocks_from b (TheBlock c ∷ os) (inr m) = inr (blocks_from b os m)
blocks_from b (TheOperation p ∷ os) m = inr (blocks_from b os m)
blocks_from b (TheRegion r ∷ os) m = inr (blocks_from b os m)

blocks_differ : (os : List Object) → Differ os → Differ (blocks_among os)
blocks_differ [] d = tt
blocks_differ (TheBlock b ∷ os) d = (λ m. d.0 (blocks_from b os m), blocks_differ os d.1)
blocks_differ (TheOperation p ∷ os) d = blocks_differ os d.1
blocks_differ (TheRegion r ∷ os) d = blocks_differ os d.1

pub blocks_listed : (P : Object → Type 0) (os : List Object) → Lists P os → Lists (λ b. P (TheBlock b)) (blocks_among os)
blocks_listed P os l = record {
  all = λ b h. among_blocks b os (l.all (TheBlock b) h);
  only = λ b m. l.only (TheBlock b) (blocks_from b os m);
  once = once_of (blocks_among os) (blocks_differ os (differ_of os l.once));
}
