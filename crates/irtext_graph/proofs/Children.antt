-- Sums over all objects, when one has another content.
use Rattle.std.proofs.Common.{◌≡◌, ◌+◌, ◌∙◌, ℕ, zero, suc, refl, ap, arith, Option, Some, None, List, [], ◌∷◌, length, slice_get, set, get_or, sum_by, option_map}
use Rattle.std.proofs.lemmas.List.Sums.{sum_by-set}
use Rattle.irtext_few.specs.Growing.{listed}
use Rattle.irtext_graph.specs.declared.arena.Arena.{Arena}
use Rattle.irtext_graph.specs.declared.arena.Entry.{Entry}
use Rattle.irtext_graph.specs.declared.arena.Ptr.{Ptr}
use Rattle.irtext_graph.specs.declared.arena.Slot.{Slot}
use Rattle.irtext_graph.specs.declared.arena.Slot.TheVariants.{Full}
use Rattle.irtext_graph.specs.declared.nest.Nest.{Nest}
use Rattle.irtext_graph.specs.Arena.{get, filled}
use Rattle.irtext_graph.specs.Lending.{with_content_at}
use Rattle.irtext_graph.specs.Nest.{links, size}
use Rattle.irtext_graph.proofs.Arenas.{lent, in_slot, within}

get_or-get : {X : Type 0} (xs : List X) (i : ℕ) (y : X) → slice_get xs i ≡ Some y → get_or xs i y ≡ y
get_or-get [] i y e = refl
get_or-get (x ∷ xs) zero y e = let k : x ≡ y = cc in k
get_or-get (x ∷ xs) (suc i) y e = get_or-get xs i y e

module _ {X : Type 0} (count : Slot X → ℕ) (size : X → ℕ) (counted : (g : ℕ) (o : Entry X) → count (Full g o) ≡ size o.content) where
  -- a sum over all places, when one object has another content
  pub sum_with : {K : Type 0} (a : Arena X) (p : Ptr K) (x w : X) → option_map (λ o. o.content) (get a p) ≡ Some x
      → sum_by count (with_content_at a p.index w).slots.items + size x ≡ sum_by count a.slots.items + size w
  sum_with {K} a p x w e = go (get a p) refl e
    where
      go : (s : Option (Entry X)) → get a p ≡ s → option_map (λ o. o.content) s ≡ Some x
          → sum_by count (with_content_at a p.index w).slots.items + size x ≡ sum_by count a.slots.items + size w
      go None f h = absurd (cc)
      go (Some o) f h =
          let same : o.content ≡ x = cc in
          let xs = a.slots.items in
          let here = in_slot (slice_get xs p.index) p.generation o f in
          let new : Slot X = Full p.generation (filled o w) in
          let old : Slot X = Full p.generation o in
          let sum = sum_by-set count xs p.index new old (within xs p.index p.generation (rw f refl)) in
          let at : count (get_or xs p.index old) ≡ size o.content = ap count (get_or-get xs p.index old here) ∙ counted p.generation o in
          let to : count new ≡ size w = counted p.generation (filled o w) in
          let size_x : size o.content ≡ size x = ap size same in
          let l : sum_by count (with_content_at a p.index w).slots.items ≡ sum_by count (set xs p.index new) = ap (λ (b : Arena X). sum_by count b.slots.items) (lent a p o w f) in
          omega (arith, sum, at, to, size_x, l)

module _ {P C D : Type 0} where
  pub links_with : {K : Type 0} (a : Arena (Nest P C D)) (p : Ptr K) (x w : Nest P C D) → option_map (λ o. o.content) (get a p) ≡ Some x
      → links (with_content_at a p.index w) + length (listed x.children) ≡ links a + length (listed w.children)
  links_with a p x w e = sum_with size (λ (n : Nest P C D). length (listed n.children)) (λ g o. refl) a p x w e
