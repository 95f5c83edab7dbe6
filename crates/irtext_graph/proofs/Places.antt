-- A number for each object that lives.
use Rattle.std.proofs.Common.{◌≡◌, ◌<◌, ◌≤◌, ◌+◌, ◌-◌, ◌==◌, ℕ, suc, Option, Some, None, refl, sym, ap, ◌∙◌, inl, inr, arith, Bool, true, false, cond, List, slice_get, length, IsSome, map}
use Rattle.std.specs.Option.{option_map}
use Rattle.std.proofs.lemmas.Bool.{eqb-true}
use Rattle.irtext_graph.specs.declared.arena.Ptr.{Ptr}
use Rattle.irtext_graph.specs.declared.arena.Slot.{Slot}
use Rattle.irtext_graph.specs.declared.arena.Slot.TheVariants.{Vacant, Full}
use Rattle.irtext_graph.specs.declared.arena.Entry.{Entry}
use Rattle.irtext_graph.specs.declared.object.Object.{Object}
use Rattle.irtext_graph.specs.declared.object.Object.TheVariants.{TheOperation, TheBlock, TheRegion}
use Rattle.irtext_graph.specs.declared.objects.Objects.{Objects}
use Rattle.irtext_graph.specs.Nested.{climb}
use Rattle.irtext_graph.proofs.Rank.{Counts, deeper}
use Rattle.irtext_graph.proofs.Same.{ptr_same}
use Rattle.irtext_graph.proofs.Nests.{seen, climb-add, climb-none}
use Rattle.irtext_graph.specs.Arena.{get, found}
use Rattle.irtext_graph.specs.Nest.{parent_in, children_in, datum_in}
use Rattle.irtext_graph.specs.declared.nest.Nest.{Nest}
use Rattle.irtext_graph.specs.Objects.{up, kids, Lives, IsForest}
use Rattle.irtext_graph.specs.Preorder.{slots}
use Rattle.irtext_graph.proofs.Depth.{depth_of}
use Rattle.irtext_graph.specs.Content.{Content.{AnOperation, ABlock, ARegion}, operation_content, block_content, region_content}
use Rattle.irtext_graph.proofs.Counts.{entry-low}

listed_in : {P C D K : Type 0} (f : Ptr C → Object) (g : ℕ × D → K) (e : Option (Entry (Nest P C D))) (i : ℕ) (c : Object) → slice_get (map f (children_in e)) i ≡ Some c → IsSome (option_map g (datum_in e))
listed_in f g None i c e = absurd (cc)
listed_in f g (Some x) i c e = refl

there : {P C D : Type 0} (f : Ptr P → Object) (e : Option (Entry (Nest P C D))) (k : Object) → option_map f (parent_in e) ≡ Some k → IsSome e
there f None k e = absurd (cc)
there f (Some x) k e = refl

found-generation : {X : Type 0} (o : Option (Slot X)) (g h : ℕ) → IsSome (found o g) → IsSome (found o h) → g ≡ h
found-generation None g h a b = absurd (cc)
found-generation (Some (Vacant k n)) g h a b = absurd (cc)
found-generation (Some (Full k x)) g h a b = sym (one g a) ∙ one h b
  where
    one : (g : ℕ) → IsSome (found (Some (Full k x)) g) → k ≡ g
    one g a = go (k == g) refl a
      where
        go : (t : Bool) → (k == g) ≡ t → IsSome (cond t (Some x) None) → k ≡ g
        go true e a = eqb-true k g e
        go false e a = absurd (cc)

same_ptr : {X K : Type 0} (xs : List (Slot X)) (p q : Ptr K) → IsSome (found (slice_get xs p.index) p.generation) → IsSome (found (slice_get xs q.index) q.generation) → p.index ≡ q.index → p ≡ q
same_ptr xs p q a b e = ptr_same p q e (found-generation (slice_get xs q.index) p.generation q.generation (rw e at a) b)

pub climb-next : (up : Object → Option Object) (n : ℕ) (s : Option Object) (o : Object) → climb up n s ≡ Some o → climb up (suc n) s ≡ up o
climb-next up n s o e =
    let z : suc n ≡ n + 1 = omega arith in
    ap (λ (k : ℕ). climb up k s) z ∙ climb-add up n 1 s ∙ ap (climb up 1) e

pub climb-past : (up : Object → Option Object) (m n : ℕ) (s : Option Object) → climb up m s ≡ None → m ≤ n → climb up n s ≡ None
climb-past up m n s e le =
    let z : n ≡ m + (n - m) = omega (arith, le) in
    ap (λ (k : ℕ). climb up k s) z ∙ climb-add up m (n - m) s ∙ ap (climb up (n - m)) e ∙ climb-none up (n - m)

module _ {O B T : Type 0} where
  -- what has a child lives
  pub kids_live : (x : Objects O B T) (k : Object) (i : ℕ) (c : Object) → slice_get (kids x k) i ≡ Some c → Lives x k
  kids_live x (TheOperation p) i c e = listed_in TheRegion (λ d. AnOperation d.0 (operation_content d.1)) (get x.operations p) i c e
  kids_live x (TheBlock p) i c e = listed_in TheOperation (λ d. ABlock d.0 (block_content d.1)) (get x.blocks p) i c e
  kids_live x (TheRegion p) i c e = listed_in TheBlock (λ d. ARegion d.0 (region_content d.1)) (get x.regions p) i c e

  pub parent_lives : (x : Objects O B T) (c k : Object) → IsForest x → up x c ≡ Some k → Lives x k
  parent_lives x c k s e = let o = s.listed c k e in kids_live x k o.0 c o.1

  abbrev pub code : Objects O B T → Object → ℕ
  code x (TheOperation p) = p.index
  code x (TheBlock p) = length x.operations.slots.items + p.index
  code x (TheRegion p) = length x.operations.slots.items + length x.blocks.slots.items + p.index

  pub counts : (x : Objects O B T) → Counts (up x) (code x) (slots x)
  counts x = record { small = small; tells = tells }
    where
      op_low : (p : Ptr _) (k : Object) → up x (TheOperation p) ≡ Some k → p.index < length x.operations.slots.items
      op_low p k e = entry-low x.operations.slots.items p.index p.generation (there TheBlock (get x.operations p) k e)

      block_low : (p : Ptr _) (k : Object) → up x (TheBlock p) ≡ Some k → p.index < length x.blocks.slots.items
      block_low p k e = entry-low x.blocks.slots.items p.index p.generation (there TheRegion (get x.blocks p) k e)

      region_low : (p : Ptr _) (k : Object) → up x (TheRegion p) ≡ Some k → p.index < length x.regions.slots.items
      region_low p k e = entry-low x.regions.slots.items p.index p.generation (there TheOperation (get x.regions p) k e)

      small : (o k : Object) → up x o ≡ Some k → code x o < slots x
      small (TheOperation p) k e = let l = op_low p k e in omega (arith, l)
      small (TheBlock p) k e = let l = block_low p k e in omega (arith, l)
      small (TheRegion p) k e = let l = region_low p k e in omega (arith, l)

      tells : (o o' k k' : Object) → up x o ≡ Some o' → up x k ≡ Some k' → code x o ≡ code x k → o ≡ k
      tells (TheOperation p) o' (TheOperation q) k' a b e = ap TheOperation (same_ptr x.operations.slots.items p q (there TheBlock (get x.operations p) o' a) (there TheBlock (get x.operations q) k' b) e)
      tells (TheBlock p) o' (TheBlock q) k' a b e = ap TheBlock (same_ptr x.blocks.slots.items p q (there TheRegion (get x.blocks p) o' a) (there TheRegion (get x.blocks q) k' b) (omega (arith, e)))
      tells (TheRegion p) o' (TheRegion q) k' a b e = ap TheRegion (same_ptr x.regions.slots.items p q (there TheOperation (get x.regions p) o' a) (there TheOperation (get x.regions q) k' b) (omega (arith, e)))
      tells (TheOperation p) o' (TheBlock q) k' a b e = absurd (let l = op_low p o' a in omega (arith, e, l))
      tells (TheOperation p) o' (TheRegion q) k' a b e = absurd (let l = op_low p o' a in omega (arith, e, l))
      tells (TheBlock p) o' (TheOperation q) k' a b e = absurd (let l = op_low q k' b in omega (arith, e, l))
      tells (TheBlock p) o' (TheRegion q) k' a b e = absurd (let l = block_low p o' a in omega (arith, e, l))
      tells (TheRegion p) o' (TheOperation q) k' a b e = absurd (let l = op_low q k' b in omega (arith, e, l))
      tells (TheRegion p) o' (TheBlock q) k' a b e = absurd (let l = block_low q k' b in omega (arith, e, l))

  -- a child is one deeper than its parent
  pub one_deeper : (x : Objects O B T) (c k : Object) → IsForest x → up x c ≡ Some k → depth_of x (Some c) ≡ suc (depth_of x (Some k))
  one_deeper x c k s e = deeper (up x) (code x) (slots x) (counts x) s.ends c k e

  pub depth-less : (x : Objects O B T) (o : Object) → IsForest x → depth_of x (up x o) < depth_of x (Some o)
  depth-less x o s = elim (seen (up x o)) [
    | inl none ↦
        let a : depth_of x (up x o) ≡ 0 = ap (depth_of x) none in
        omega (arith, a)
    | inr (k, e) ↦
        let a : depth_of x (up x o) ≡ depth_of x (Some k) = ap (depth_of x) e in
        let b = one_deeper x o k s e in
        omega (arith, a, b)
  ]
