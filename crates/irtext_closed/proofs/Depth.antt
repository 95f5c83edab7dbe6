-- How deep an object is nested: a number that falls on the way up.
use Rattle.std.proofs.Common.{◌≡◌, ◌∙◌, ◌<◌, ◌+◌, ◌==◌, if◌then◌else◌, ℕ, suc, refl, sym, ap, arith, Bool, true, false, List, [], ◌∷◌, zero, length, slice_get, Option, Some, None, IsSome}
use Rattle.std.specs.Option.{option_map}
use Rattle.std.proofs.lemmas.Bool.{eqb-true}
use Rattle.irtext_graph.specs.declared.arena.Entry.{Entry}
use Rattle.irtext_graph.specs.declared.arena.Ptr.{Ptr}
use Rattle.irtext_graph.specs.declared.object.Object.{Object}
use Rattle.irtext_graph.specs.declared.object.Object.TheVariants.{TheOperation, TheBlock, TheRegion}
use Rattle.irtext_graph.specs.Content.{Node}
use Rattle.irtext_graph.specs.Graph.{GraphView, parent_of, parent, children}
use Rattle.irtext_graph.specs.Nested.{Nested}
use Rattle.irtext_graph.specs.Store.{Cell, Store, object_in, get}
use Rattle.irtext_graph.specs.Throughout.{places}
use Rattle.irtext_graph.proofs.Rank.{Counts, depth, deeper}
use Rattle.irtext_graph.proofs.Same.{ptr_same}

there : {P C E : Type 0} (f : Ptr P → Object) (e : Option (Entry (Node P C E))) (k : Object) → option_map f (parent_of e) ≡ Some k → IsSome e
there f None k e = absurd (cc)
there f (Some x) k e = refl

low : {X : Type 0} (cells : List (Cell X)) (i n : ℕ) → IsSome (object_in (slice_get cells i) n) → i < length cells
low [] i n h = absurd (cc)
low (x ∷ xs) zero n h = omega arith
low (x ∷ xs) (suc i) n h = omega (arith, low xs i n h)

one_generation : {X : Type 0} (c : Option (Cell X)) (n m : ℕ) → IsSome (object_in c n) → IsSome (object_in c m) → n ≡ m
one_generation None n m a b = absurd (cc)
one_generation (Some c) n m a b = sym (is n a) ∙ is m b
  where
    is : (n : ℕ) → IsSome (object_in (Some c) n) → c.generation ≡ n
    is n a = go (c.generation == n) refl a
      where
        go : (t : Bool) → (c.generation == n) ≡ t → IsSome (if t then c.object else None) → c.generation ≡ n
        go true e a = eqb-true c.generation n e
        go false e a = absurd (cc)

-- what is live in a slot has one pointer
pub one_pointer : {X K : Type 0} (s : Store X) (p q : Ptr K) → IsSome (get s p) → IsSome (get s q) → p.index ≡ q.index → p ≡ q
one_pointer s p q a b e = ptr_same p q e (one_generation (slice_get s.cells q.index) p.generation q.generation (rw e at a) b)

module _ {O B T : Type 0} (g : GraphView O B T) where
  -- a number for each object
  abbrev code : Object → ℕ
  code (TheOperation p) = p.index
  code (TheBlock p) = length g.operations.cells + p.index
  code (TheRegion p) = length g.operations.cells + length g.blocks.cells + p.index

  counts : Counts (parent g) code (places g)
  counts = record { small = small; tells = tells }
    where
      operation_low : (p : Ptr _) (k : Object) → parent g (TheOperation p) ≡ Some k → p.index < length g.operations.cells
      operation_low p k e = low g.operations.cells p.index p.generation (there TheBlock (get g.operations p) k e)

      block_low : (p : Ptr _) (k : Object) → parent g (TheBlock p) ≡ Some k → p.index < length g.blocks.cells
      block_low p k e = low g.blocks.cells p.index p.generation (there TheRegion (get g.blocks p) k e)

      region_low : (p : Ptr _) (k : Object) → parent g (TheRegion p) ≡ Some k → p.index < length g.regions.cells
      region_low p k e = low g.regions.cells p.index p.generation (there TheOperation (get g.regions p) k e)

      small : (o k : Object) → parent g o ≡ Some k → code o < places g
      small (TheOperation p) k e = let l = operation_low p k e in omega (arith, l)
      small (TheBlock p) k e = let l = block_low p k e in omega (arith, l)
      small (TheRegion p) k e = let l = region_low p k e in omega (arith, l)

      tells : (o o' k k' : Object) → parent g o ≡ Some o' → parent g k ≡ Some k' → code o ≡ code k → o ≡ k
      tells (TheOperation p) o' (TheOperation q) k' a b e = ap TheOperation (one_pointer g.operations p q (there TheBlock (get g.operations p) o' a) (there TheBlock (get g.operations q) k' b) e)
      tells (TheBlock p) o' (TheBlock q) k' a b e = ap TheBlock (one_pointer g.blocks p q (there TheRegion (get g.blocks p) o' a) (there TheRegion (get g.blocks q) k' b) (omega (arith, e)))
      tells (TheRegion p) o' (TheRegion q) k' a b e = ap TheRegion (one_pointer g.regions p q (there TheOperation (get g.regions p) o' a) (there TheOperation (get g.regions q) k' b) (omega (arith, e)))
      tells (TheOperation p) o' (TheBlock q) k' a b e = absurd (let l = operation_low p o' a in omega (arith, e, l))
      tells (TheOperation p) o' (TheRegion q) k' a b e = absurd (let l = operation_low p o' a in omega (arith, e, l))
      tells (TheBlock p) o' (TheOperation q) k' a b e = absurd (let l = operation_low q k' b in omega (arith, e, l))
      tells (TheBlock p) o' (TheRegion q) k' a b e = absurd (let l = block_low p o' a in omega (arith, e, l))
      tells (TheRegion p) o' (TheOperation q) k' a b e = absurd (let l = operation_low q k' b in omega (arith, e, l))
      tells (TheRegion p) o' (TheBlock q) k' a b e = absurd (let l = block_low q k' b in omega (arith, e, l))

  -- how deep an object is nested
  abbrev pub depth_of : Object → ℕ
  depth_of o = depth (parent g) (suc (places g)) (Some o)

  -- a parent is less deep
  pub parent_less : Nested (children g) (parent g) → (c k : Object) → parent g c ≡ Some k → depth_of k < depth_of c
  parent_less nested c k e = let d = deeper (parent g) code (places g) counts nested.ends c k e in omega (arith, d)
