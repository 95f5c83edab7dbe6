-- The forest that a graph shows: each way up ends within as many steps as there are places.
use Rattle.std.proofs.Common.{◌≡◌, ◌≢◌, ◌<◌, ◌≤◌, ◌+◌, ◌==◌, ◌∙◌, ℕ, zero, suc, refl, sym, ap, subst}
use Rattle.std.proofs.Common.{arith, inl, inr, Bool, true, false, cond, Option, Some, None, IsSome, List, length, slice_get}
use Rattle.std.specs.Option.{option_map}
use Rattle.std.proofs.lemmas.Bool.{eqb-true}
use Rattle.std.proofs.lemmas.Option.{slice_get_within}
use Rattle.irtext_graph.specs.declared.arena.Entry.{Entry}
use Rattle.irtext_graph.specs.declared.arena.Ptr.{Ptr}
use Rattle.irtext_graph.specs.declared.object.Object.{Object}
use Rattle.irtext_graph.specs.declared.object.Object.TheVariants.{TheOperation, TheBlock, TheRegion}
use Rattle.irtext_graph.specs.Content.{Node, Content.{AnOperation, ABlock, ARegion}}
use Rattle.irtext_graph.specs.Graph.{GraphView, parent, children, parent_of, content_of, IsLive, IsInside}
use Rattle.irtext_graph.specs.Nested.{climb, Nested}
use Rattle.irtext_graph.specs.Store.{Cell, Store, get, object_in}
use Rattle.irtext_graph.specs.Throughout.{places}
use Rattle.irtext_graph.proofs.Nests.{seen, some_eq, climb-none}
use Rattle.irtext_graph.proofs.Rank.{Counts, way_le, deeper, depth, depth-le, no_cycle}
use Rattle.irtext_graph.proofs.Same.{ptr_same}

there : {P C E : Type 0} (f : Ptr P → Object) (e : Option (Entry (Node P C E))) (k : Object) → option_map f (parent_of e) ≡ Some k → IsSome e
there f None k e = absurd (cc)
there f (Some x) k e = refl

lifted : {P C E K : Type 0} (f : Ptr P → Object) (h : ℕ × E → K) (e : Option (Entry (Node P C E))) (k : Object) → option_map f (parent_of e) ≡ Some k
    → IsSome (option_map h (content_of e))
lifted f h None k e = absurd (cc)
lifted f h (Some x) k e = refl

module _ {X : Type 0} where
  in_cells : (xs : List (Cell X)) (i n : ℕ) → IsSome (object_in (slice_get xs i) n) → i < length xs
  in_cells xs i n h = go (slice_get xs i) refl h
    where
      go : (s : Option (Cell X)) → slice_get xs i ≡ s → IsSome (object_in s n) → i < length xs
      go None e h = absurd (cc)
      go (Some c) e h = slice_get_within xs i c e

  generation_is : (c : Cell X) (n : ℕ) → IsSome (object_in (Some c) n) → c.generation ≡ n
  generation_is c n h = go (c.generation == n) refl h
    where
      go : (t : Bool) → (c.generation == n) ≡ t → IsSome (cond t c.object None) → c.generation ≡ n
      go true e h = eqb-true c.generation n e
      go false e h = absurd (cc)

  one_generation : (s : Option (Cell X)) (n m : ℕ) → IsSome (object_in s n) → IsSome (object_in s m) → n ≡ m
  one_generation None n m a b = absurd (cc)
  one_generation (Some c) n m a b = sym (generation_is c n a) ∙ generation_is c m b

  one_pointer : {K : Type 0} (s : Store X) (p q : Ptr K) → IsSome (get s p) → IsSome (get s q) → p.index ≡ q.index → p ≡ q
  one_pointer s p q a b e = ptr_same p q e (one_generation (slice_get s.cells q.index) p.generation q.generation (rw e at a) b)

module _ {O B T : Type 0} where
  -- an object with a parent is live
  pub child_lives : (g : GraphView O B T) (c k : Object) → parent g c ≡ Some k → IsLive g c
  child_lives g (TheOperation p) k e = lifted TheBlock (λ d. AnOperation d.0 d.1) (get g.operations p) k e
  child_lives g (TheBlock p) k e = lifted TheRegion (λ d. ABlock d.0 d.1) (get g.blocks p) k e
  child_lives g (TheRegion p) k e = lifted TheOperation (λ d. ARegion d.0 d.1) (get g.regions p) k e

  -- a number for each object
  abbrev pub code : GraphView O B T → Object → ℕ
  code g (TheOperation p) = p.index
  code g (TheBlock p) = length g.operations.cells + p.index
  code g (TheRegion p) = length g.operations.cells + length g.blocks.cells + p.index

  pub counts : (g : GraphView O B T) → Counts (parent g) (code g) (places g)
  counts g = record { small = small; tells = tells }
    where
      op_low : (p : Ptr _) (k : Object) → parent g (TheOperation p) ≡ Some k → p.index < length g.operations.cells
      op_low p k e = in_cells g.operations.cells p.index p.generation (there TheBlock (get g.operations p) k e)

      block_low : (p : Ptr _) (k : Object) → parent g (TheBlock p) ≡ Some k → p.index < length g.blocks.cells
      block_low p k e = in_cells g.blocks.cells p.index p.generation (there TheRegion (get g.blocks p) k e)

      region_low : (p : Ptr _) (k : Object) → parent g (TheRegion p) ≡ Some k → p.index < length g.regions.cells
      region_low p k e = in_cells g.regions.cells p.index p.generation (there TheOperation (get g.regions p) k e)

      small : (o k : Object) → parent g o ≡ Some k → code g o < places g
      small (TheOperation p) k e = let l = op_low p k e in omega (arith, l)
      small (TheBlock p) k e = let l = block_low p k e in omega (arith, l)
      small (TheRegion p) k e = let l = region_low p k e in omega (arith, l)

      tells : (o o' k k' : Object) → parent g o ≡ Some o' → parent g k ≡ Some k' → code g o ≡ code g k → o ≡ k
      tells (TheOperation p) o' (TheOperation q) k' a b e = ap TheOperation
          (one_pointer g.operations p q (there TheBlock (get g.operations p) o' a) (there TheBlock (get g.operations q) k' b) e)
      tells (TheBlock p) o' (TheBlock q) k' a b e = ap TheBlock
          (one_pointer g.blocks p q (there TheRegion (get g.blocks p) o' a) (there TheRegion (get g.blocks q) k' b) (omega (arith, e)))
      tells (TheRegion p) o' (TheRegion q) k' a b e = ap TheRegion
          (one_pointer g.regions p q (there TheOperation (get g.regions p) o' a) (there TheOperation (get g.regions q) k' b) (omega (arith, e)))
      tells (TheOperation p) o' (TheBlock q) k' a b e = absurd (let l = op_low p o' a in omega (arith, e, l))
      tells (TheOperation p) o' (TheRegion q) k' a b e = absurd (let l = op_low p o' a in omega (arith, e, l))
      tells (TheBlock p) o' (TheOperation q) k' a b e = absurd (let l = op_low q k' b in omega (arith, e, l))
      tells (TheBlock p) o' (TheRegion q) k' a b e = absurd (let l = block_low p o' a in omega (arith, e, l))
      tells (TheRegion p) o' (TheOperation q) k' a b e = absurd (let l = op_low q k' b in omega (arith, e, l))
      tells (TheRegion p) o' (TheBlock q) k' a b e = absurd (let l = block_low q k' b in omega (arith, e, l))

  -- the levels above an object, itself among them
  abbrev pub level : GraphView O B T → Object → ℕ
  level g x = depth (parent g) (suc (places g)) (Some x)

  module _ (g : GraphView O B T) (s : Nested (children g) (parent g)) where
    pub short : (n : ℕ) (q z : Object) → climb (parent g) n (Some q) ≡ Some z → n ≤ places g
    short = way_le (parent g) (code g) (places g) (counts g) s.ends

    -- a child is one level deeper
    pub one_deeper : (x k : Object) → parent g x ≡ Some k → level g x ≡ suc (level g k)
    one_deeper x k e = deeper (parent g) (code g) (places g) (counts g) s.ends x k e

    pub few_levels : (x : Object) → level g x ≤ suc (places g)
    few_levels x = depth-le (parent g) (suc (places g)) (Some x)

    -- a child of an object inside o is not o
    pub child_not : (o k c : Object) → IsInside g o k → parent g c ≡ Some k → c ≢ o
    child_not o k c w e same =
        let d = s.ends o in
        let f : parent g o ≡ Some k = ap (parent g) (sym same) ∙ e in
        no_cycle (parent g) o w.0 (ap (climb (parent g) w.0) f ∙ w.1) d.0 d.0 (omega arith) d.1

  -- what is inside o and not o has a parent, which is inside o
  pub holder_of : (g : GraphView O B T) (o q : Object) → IsInside g o q → q ≢ o → (k : Object) × (parent g q ≡ Some k) × IsInside g o k
  holder_of g o q w ne = go w.0 w.1
    where
      go : (n : ℕ) → climb (parent g) n (Some q) ≡ Some o → (k : Object) × (parent g q ≡ Some k) × IsInside g o k
      go zero e = absurd (ne (some_eq e))
      go (suc n) e = elim (seen (parent g q)) [
        | inl none ↦ absurd (let f : climb (parent g) n (parent g q) ≡ climb (parent g) n None = ap (climb (parent g) n) none in let h = climb-none
            (parent g) n in cc)
        | inr (k, f) ↦ (k, f, (n, ap (climb (parent g) n) (sym f) ∙ e))
      ]

  pub holder_inside : (g : GraphView O B T) (o q k : Object) → IsInside g o q → q ≢ o → parent g q ≡ Some k → IsInside g o k
  holder_inside g o q k w ne e = let p = holder_of g o q w ne in subst (IsInside g o) (some_eq (sym p.1 ∙ e)) p.2
