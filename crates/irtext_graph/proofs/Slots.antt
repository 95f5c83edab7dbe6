-- The slot at an index, as it is read: whether an object is in it, and whether it can be used again.
use Rattle.std.proofs.Common.{◌⊎◌, inl, inr, set, ◌≡◌, ◌≢◌, ◌<◌, ◌≤◌, ◌+◌, ◌∙◌, ℕ, zero, suc, refl, sym, ap, subst, arith, Bool, true, false, nat_lt, Option, Some, None, IsSome, List, [], ◌∷◌, length, slice_get, get_or, option_map, unwrap_or, cond}
use Rattle.std.proofs.lemmas.Bool.{false≢true, lt-ltb}
use Rattle.std.proofs.lemmas.Option.{slice_get_read}
use borrow.Author.Tests.{ltb-true}
use Rattle.irtext_graph.specs.declared.arena.Arena.{Arena}
use Rattle.irtext_graph.specs.declared.arena.Entry.{Entry}
use Rattle.irtext_graph.specs.declared.arena.Ptr.{Ptr}
use Rattle.irtext_graph.specs.declared.arena.Slot.{Slot}
use Rattle.irtext_graph.specs.declared.arena.Slot.TheVariants.{Vacant, Full}
use Rattle.irtext_graph.specs.Arena.{get, found, drawn, generation_at, is_usable, free_place, Updates, Inserts}
use Rattle.irtext_graph.proofs.Arenas.{found_here, found_elsewhere, held_found, in_slot, within}
use Rattle.irtext_graph.proofs.Pointers.{equal_or_not, ptr_same, slice_get-set_same, slice_get-set_other}

module _ {X : Type 0} where
  -- the slot that was read is at the index
  pub slot_is : (xs ys : List (Slot X)) (i : ℕ) (s : Slot X) → ys ≡ xs → i < length ys → s ≡ get_or ys i s → slice_get xs i ≡ Some s
  slot_is xs ys i s e low same = subst (λ zs. slice_get zs i ≡ Some s) e (slice_get_read ys (length ys) i s refl low same)

  -- no slot was read, so nothing is at the index
  pub no_slot : (xs ys : List (Slot X)) (i : ℕ) → ys ≡ xs → length ys ≤ i → slice_get xs i ≡ None
  no_slot xs ys i e high = subst (λ zs. slice_get zs i ≡ None) e (past ys i high)
    where
      past : (zs : List (Slot X)) (j : ℕ) → length zs ≤ j → slice_get zs j ≡ None
      past [] j h = refl
      past (z ∷ zs) zero h = absurd (omega (arith, h))
      past (z ∷ zs) (suc j) h = past zs j (omega (arith, h))

  module _ {K : Type 0} (a : Arena X) (p : Ptr K) where
    here : (s : Slot X) → IsSome (get a p) → s ≡ get_or a.slots.items p.index s → slice_get a.slots.items p.index ≡ Some s
    here s h e = slot_is a.slots.items a.slots.items p.index s refl (within a.slots.items p.index p.generation h) e

    -- where an object is live, its slot is not vacant
    pub not_vacant : (s : Slot X) (g n : ℕ) → IsSome (get a p) → s ≡ get_or a.slots.items p.index s → s ≡ Vacant g n → ⊥
    not_vacant s g n h e v = let m : IsSome (found {X = X} (Some (Vacant g n)) p.generation) = subst (λ o. IsSome (found {X = X} o p.generation)) (here s h e ∙ ap Some v) h in false≢true m

    -- and its content is that of the object
    pub full_content : (s : Slot X) (g : ℕ) (o : Entry X) → IsSome (get a p) → s ≡ get_or a.slots.items p.index s → s ≡ Full g o → option_map (λ o. o.content) (get a p) ≡ Some o.content
    full_content s g o h e f =
        let k : slice_get a.slots.items p.index ≡ Some (Full g o) = here s h e ∙ ap Some f in
        ap (λ s. option_map (λ o. o.content) (found s p.generation)) k
        ∙ ap (option_map (λ o. o.content)) (held_found (Full g o) p.generation (subst (λ s. IsSome (found s p.generation)) k h))

    -- the object of the slot that was read is found under its generation, and under no other
    module _ (g : ℕ) (o : Entry X) (ys : List (Slot X)) (s : Slot X) (e : ys ≡ a.slots.items) (low : p.index < length ys) (same : s ≡ get_or ys p.index s) (full : s ≡ Full g o) where
      read_full : found (Some (Full g o)) p.generation ≡ get a p
      read_full = sym (ap (λ z. found z p.generation) (slot_is a.slots.items ys p.index s e low same ∙ ap Some full))

      pub found_full : g ≡ p.generation → Some o ≡ get a p
      found_full e = sym (ap (λ h. found (Some (Full h o)) p.generation) e ∙ found_here p.generation o) ∙ read_full

      pub found_other : g ≢ p.generation → None ≡ get a p
      found_other ne = sym (found_elsewhere g p.generation o ne) ∙ read_full

  module _ (a : Arena X) where
    -- no freed slot can be used again if its generations are exhausted, or if an object is in it, or if there is none
    pub exhausted : (g n : ℕ) → slice_get a.slots.items a.free ≡ Some (Vacant g n) → 4294967294 ≤ g → free_place a ≡ None
    exhausted g n k high = ap (λ s. cond (is_usable s) (Some a.free) None) k ∙ ap (λ b. cond b (Some a.free) None) (go (nat_lt g 4294967294) refl)
      where
        go : (t : Bool) → nat_lt g 4294967294 ≡ t → t ≡ false
        go true e = absurd (omega (arith, ltb-true g 4294967294 e, high))
        go false e = refl

    pub none_to_use : slice_get a.slots.items a.free ≡ None → free_place a ≡ None
    none_to_use k = ap (λ s. cond (is_usable s) (Some a.free) None) k

  -- an object was stored in the slot that was freed last
  module _ {K : Type 0} (a b : Arena X) (p : Ptr K) (g n : ℕ) (x : Entry X) (was : slice_get a.slots.items p.index ≡ Some (Vacant g n)) (first : p.index ≡ a.free) (low : g < 4294967294) (next : p.generation ≡ g + 1) (items : b.slots.items ≡ set a.slots.items p.index (Full (g + 1) x)) where
    full_again : slice_get b.slots.items p.index ≡ Some (Full (g + 1) x)
    full_again = ap (λ xs. slice_get xs p.index) items ∙ slice_get-set_same a.slots.items p.index (Full (g + 1) x) (Vacant g n) was

    as_before : (i : ℕ) → i ≢ p.index → slice_get b.slots.items i ≡ slice_get a.slots.items i
    as_before i ne = ap (λ xs. slice_get xs i) items ∙ slice_get-set_other a.slots.items p.index i (Full (g + 1) x) ne

    free_here : free_place a ≡ Some p.index
    free_here =
        ap (λ i. cond (is_usable (slice_get a.slots.items i)) (Some i) None) (sym first)
        ∙ ap (λ s. cond (is_usable s) (Some p.index) None) was ∙ ap (λ t. cond t (Some p.index) None) (lt-ltb g 4294967294 low)

    pub inserted_again : Inserts a b p x
    inserted_again = record {
      place = sym (ap (λ o. unwrap_or o (length a.slots.items)) free_here);
      next = next ∙ sym (ap (λ s. drawn s + 1) was);
      drawn_here = ap drawn full_again ∙ sym next;
      drawn_elsewhere = λ i ne. ap drawn (as_before i ne);
      updates = record {
        changed = ap (λ s. found s p.generation) full_again ∙ ap (λ h. found (Some (Full h x)) p.generation) (sym next) ∙ found_here p.generation x;
        others = λ q ne. other q ne (equal_or_not q.index p.index);
      };
      none_free = λ none. let e = sym free_here ∙ none in absurd (cc);
    }
      where
        other : (q : Ptr K) → q ≢ p → (q.index ≡ p.index) ⊎ (q.index ≢ p.index) → get b q ≡ get a q
        other q ne (inr m) = ap (λ s. found s q.generation) (as_before q.index m)
        other q ne (inl e) =
            ap (λ j. found (slice_get b.slots.items j) q.generation) e ∙ ap (λ s. found s q.generation) full_again
            ∙ found_elsewhere (g + 1) q.generation x (λ h. ne (ptr_same q p e (sym (next ∙ h))))
            ∙ sym (ap (λ j. found (slice_get a.slots.items j) q.generation) e ∙ ap (λ s. found s q.generation) was)

  -- a live object's slot is vacant now
  module _ {K : Type 0} (a b : Arena X) (p : Ptr K) (f : ℕ) (o : Entry X) (was : get a p ≡ Some o) (items : b.slots.items ≡ set a.slots.items p.index (Vacant p.generation f)) where
    full : slice_get a.slots.items p.index ≡ Some (Full p.generation o)
    full = in_slot (slice_get a.slots.items p.index) p.generation o was

    vacant : slice_get b.slots.items p.index ≡ Some (Vacant p.generation f)
    vacant = ap (λ xs. slice_get xs p.index) items ∙ slice_get-set_same a.slots.items p.index (Vacant p.generation f) (Full p.generation o) full

    elsewhere : (i : ℕ) → i ≢ p.index → slice_get b.slots.items i ≡ slice_get a.slots.items i
    elsewhere i ne = ap (λ xs. slice_get xs i) items ∙ slice_get-set_other a.slots.items p.index i (Vacant p.generation f) ne

    pub vacated_updates : Updates a b p None
    vacated_updates = record {
      changed = ap (λ s. found s p.generation) vacant;
      others = λ q ne. other q ne (equal_or_not q.index p.index);
    }
      where
        other : (q : Ptr K) → q ≢ p → (q.index ≡ p.index) ⊎ (q.index ≢ p.index) → get b q ≡ get a q
        other q ne (inr m) = ap (λ s. found s q.generation) (elsewhere q.index m)
        other q ne (inl e) =
            ap (λ j. found (slice_get b.slots.items j) q.generation) e ∙ ap (λ s. found s q.generation) vacant
            ∙ sym (ap (λ j. found (slice_get a.slots.items j) q.generation) e ∙ ap (λ s. found s q.generation) full ∙ found_elsewhere p.generation q.generation o (λ g. ne (ptr_same q p e (sym g))))

    pub vacated_generations : (i : ℕ) → generation_at b i ≡ generation_at a i
    vacated_generations i = go (equal_or_not i p.index)
      where
        go : (i ≡ p.index) ⊎ (i ≢ p.index) → generation_at b i ≡ generation_at a i
        go (inl e) = ap (λ j. drawn (slice_get b.slots.items j)) e ∙ ap drawn vacant ∙ sym (ap (λ j. drawn (slice_get a.slots.items j)) e ∙ ap drawn full)
        go (inr ne) = ap drawn (elsewhere i ne)

-- what is there is an object
pub some_object : {X : Type 0} (o : Option X) → IsSome o → (x : X) × (o ≡ Some x)
some_object None h = absurd (cc)
some_object (Some x) h = (x, refl)
