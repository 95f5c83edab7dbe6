-- Which objects have room for one more child.
use Rattle.std.proofs.Common.{◌≡◌, ◌≢◌, ◌∙◌, ◌⊎◌, inl, inr, sym, ap, subst, Option, Some}
use Rattle.irtext_few.specs.Growing.{HasPlace}
use Rattle.irtext_graph.specs.declared.arena.Arena.{Arena}
use Rattle.irtext_graph.specs.declared.arena.Entry.{Entry}
use Rattle.irtext_graph.specs.declared.arena.Ptr.{Ptr}
use Rattle.irtext_graph.specs.declared.nest.Nest.{Nest}
use Rattle.irtext_graph.specs.Arena.{get}
use Rattle.irtext_graph.specs.Nest.{HasRoom}
use Rattle.irtext_graph.proofs.Arenas.{Replaced}
use Rattle.irtext_graph.proofs.Pointers.{ptr_or}

module _ {P C D K : Type 0} where
  -- the object under a pointer is replaced by one that has room if it had
  pub room_kept : (old new : Arena (Nest P C D)) (p : Ptr K) (x w : Nest P C D) → Replaced old new p x w → (HasPlace x.children → HasPlace w.children) → (q : Ptr K) → HasRoom (get old q) → HasRoom (get new q)
  room_kept old new p x w r keeps q h = go (ptr_or q p)
    where
      Roomy : Option (Entry (Nest P C D)) → Type 0
      Roomy s = HasRoom s

      go : (q ≡ p) ⊎ (q ≢ p) → HasRoom (get new q)
      go (inl e) = subst Roomy (sym (ap (get new) e ∙ r.now)) (keeps (subst Roomy (ap (get old) e ∙ r.was) h))
      go (inr n) = subst Roomy (sym (r.others q n)) h
