-- What lending the content of an object, inserting one and taking some out do to an arena.
use Rattle.std.proofs.Common.{◌≡◌, ◌≢◌, ◌<◌, ◌≤◌, ◌∙◌, ◌⊎◌, inl, inr, ◌==◌, ℕ, refl, sym, ap, subst, arith, Bool, true, false, cond, nat_lt, Option, Some, None, List, [], ◌∷◌, zero, suc, length, slice_get, IsSome}
use Rattle.std.specs.Option.{option_map}
use Rattle.std.specs.Vec.{with_item}
use Rattle.std.proofs.lemmas.Bool.{eqb-true, eq-eqb}
use Rattle.std.proofs.lemmas.Option.{cond_some}
use Rattle.std.proofs.lemmas.List.{length-set}
use Rattle.irtext_graph.specs.declared.arena.Slot.{Slot}
use Rattle.irtext_graph.specs.declared.arena.Slot.TheVariants.{Vacant, Full}
use Rattle.irtext_graph.specs.declared.arena.Entry.{Entry}
use Rattle.irtext_graph.specs.declared.arena.Arena.{Arena}
use Rattle.irtext_graph.specs.declared.arena.Ptr.{Ptr}
use Rattle.irtext_graph.specs.Arena.{get, found, drawn, content, generation_at, free_place, is_usable, filled, held, Updates, HasFew, AreOlder, KeepsPlaces, Inserts, older}
use Rattle.irtext_graph.specs.Lending.{with_content_at, with_content_of}
use Rattle.irtext_graph.proofs.Pointers.{equal_or_not, ptr_or, ptr_same, slice_get-set_same, slice_get-set_other}

module _ {X : Type 0} where
  -- what is found under a generation is in the slot
  pub in_slot : (s : Option (Slot X)) (g : ℕ) (o : Entry X) → found s g ≡ Some o → s ≡ Some (Full g o)
  in_slot None g o e = absurd (cc)
  in_slot (Some (Vacant h n)) g o e = absurd (cc)
  in_slot (Some (Full h x)) g o e =
      let k = cond_some (h == g) x o e in
      let a : h ≡ g = eqb-true h g k.0 in
      rw (a, k.1) refl

  pub found_here : (g : ℕ) (x : Entry X) → found (Some (Full g x)) g ≡ Some x
  found_here g x = ap (λ b. cond b (Some x) None) (eq-eqb g g refl)

  pub found_elsewhere : (h g : ℕ) (x : Entry X) → h ≢ g → found (Some (Full h x)) g ≡ None
  found_elsewhere h g x n = go (h == g) refl
    where
      go : (t : Bool) → (h == g) ≡ t → cond t (Some x) None ≡ None
      go true e = absurd (n (eqb-true h g e))
      go false e = refl

  -- where something is found, the index is within the list
  pub within : (xs : List (Slot X)) (i g : ℕ) → IsSome (found (slice_get xs i) g) → i < length xs
  within [] i g h = absurd (cc)
  within (x ∷ xs) zero g h = omega arith
  within (x ∷ xs) (suc i) g h = omega (arith, within xs i g h)

  -- what is found under a generation is what the place holds
  pub held_found : (s : Slot X) (g : ℕ) → IsSome (content s g) → content s g ≡ held s
  held_found (Vacant h n) g e = absurd (cc)
  held_found (Full h x) g e = go (h == g) e
    where
      go : (t : Bool) → IsSome (cond t (Some x) None) → cond t (Some x) None ≡ Some x
      go true e = refl
      go false e = absurd (cc)

  -- the object under a pointer is another, and nothing else changed
  pub record Edited {K : Type 0} (old new : Arena X) (p : Ptr K) (x : Entry X) : Type 0 where
    pub updates : Updates old new p (Some x)
    pub generations : (i : ℕ) → generation_at new i ≡ generation_at old i
    pub free : free_place new ≡ free_place old
    pub len : length new.slots.items ≡ length old.slots.items

  -- the arena with another content of a live object
  pub lent : {K : Type 0} (a : Arena X) (p : Ptr K) (o : Entry X) (w : X) → get a p ≡ Some o →
      with_content_at a p.index w ≡ record a { slots = with_item a.slots p.index (Full p.generation (filled o w)) }
  lent a p o w e = ap (λ s. with_content_of s a p.index w) (in_slot (slice_get a.slots.items p.index) p.generation o e)

  pub edited : {K : Type 0} (a : Arena X) (p : Ptr K) (o : Entry X) (w : X) → get a p ≡ Some o → Edited a (with_content_at a p.index w) p (filled o w)
  edited {K} a p o w e = subst (λ b. Edited a b p (filled o w)) (sym (lent a p o w e)) it
    where
      new : Arena X
      new = record a { slots = with_item a.slots p.index (Full p.generation (filled o w)) }

      was : slice_get a.slots.items p.index ≡ Some (Full p.generation o)
      was = in_slot (slice_get a.slots.items p.index) p.generation o e

      here : slice_get new.slots.items p.index ≡ Some (Full p.generation (filled o w))
      here = slice_get-set_same a.slots.items p.index (Full p.generation (filled o w)) (Full p.generation o) was

      there : (i : ℕ) → i ≢ p.index → slice_get new.slots.items i ≡ slice_get a.slots.items i
      there i n = slice_get-set_other a.slots.items p.index i (Full p.generation (filled o w)) n

      other : (q : Ptr K) → q ≢ p → (q.index ≡ p.index) ⊎ (q.index ≢ p.index) → get new q ≡ get a q
      other q n (inr m) = ap (λ s. found s q.generation) (there q.index m)
      other q n (inl f) =
          let apart : p.generation ≢ q.generation = λ s. n (ptr_same q p f (sym s)) in
          let one : slice_get new.slots.items q.index ≡ Some (Full p.generation (filled o w)) = ap (slice_get new.slots.items) f ∙ here in
          let two : slice_get a.slots.items q.index ≡ Some (Full p.generation o) = ap (slice_get a.slots.items) f ∙ was in
          ap (λ s. found s q.generation) one ∙ found_elsewhere p.generation q.generation (filled o w) apart
          ∙ sym (found_elsewhere p.generation q.generation o apart) ∙ sym (ap (λ s. found s q.generation) two)

      generation : (i : ℕ) → (i ≡ p.index) ⊎ (i ≢ p.index) → generation_at new i ≡ generation_at a i
      generation i (inl f) = ap (λ j. drawn (slice_get new.slots.items j)) f ∙ ap drawn here ∙ sym (ap drawn was) ∙ sym (ap (λ j. drawn (slice_get a.slots.items j)) f)
      generation i (inr m) = ap drawn (there i m)

      usable : (a.free ≡ p.index) ⊎ (a.free ≢ p.index) → is_usable (slice_get new.slots.items a.free) ≡ is_usable (slice_get a.slots.items a.free)
      usable (inl f) = ap (λ j. is_usable (slice_get new.slots.items j)) f ∙ ap is_usable here ∙ sym (ap is_usable was) ∙ sym (ap (λ j. is_usable (slice_get a.slots.items j)) f)
      usable (inr m) = ap is_usable (there a.free m)

      it : Edited a new p (filled o w)
      it = record {
        updates = record {
          changed = ap (λ s. found s p.generation) here ∙ found_here p.generation (filled o w);
          others = λ q n. other q n (equal_or_not q.index p.index);
        };
        generations = λ i. generation i (equal_or_not i p.index);
        free = ap (λ b. cond b (Some a.free) None) (usable (equal_or_not a.free p.index));
        len = length-set a.slots.items p.index (Full p.generation (filled o w));
      }

  -- the objects of an arena after one is inserted are older than a later mark
  pub older_inserted : {K : Type 0} (mark next : ℕ) (a b : Arena X) (p : Ptr K) (x : Entry X) → AreOlder mark a → mark ≤ next → x.born < next → Updates a b p (Some x) → AreOlder next b
  older_inserted {K} mark next a b p x h up less u i g y f = go (ptr_or q p)
    where
      q : Ptr K
      q = record { index = i; generation = g; of = p.of }

      go : (q ≡ p) ⊎ (q ≢ p) → y.born < next
      go (inl s) =
          let k : Some x ≡ Some y = sym u.changed ∙ sym (ap (get b) s) ∙ f in
          let l : x ≡ y = cc in
          subst (λ n. n < next) (ap (λ (z : Entry X). z.born) l) less
      go (inr n) = let m : y.born < mark = h i g y (sym (u.others q n) ∙ f) in omega (arith, m, up)

  -- the objects of an arena after one changed are as old as before
  pub older_edited : {K : Type 0} (mark : ℕ) (a b : Arena X) (p : Ptr K) (o x : Entry X) → AreOlder mark a → get a p ≡ Some o → x.born ≡ o.born → Updates a b p (Some x) → AreOlder mark b
  older_edited mark a b p o x h e same u = older_inserted mark mark a b p x h (omega arith) (subst (λ n. n < mark) (sym same) (h p.index p.generation o e)) u

  pub older_later : (mark next : ℕ) (a : Arena X) → AreOlder mark a → mark ≤ next → AreOlder next a
  older_later mark next a h up i g y f = let m : y.born < mark = h i g y f in omega (arith, m, up)

  pub older_same : (mark : ℕ) (a b : Arena X) → b.slots.items ≡ a.slots.items → AreOlder mark a → AreOlder mark b
  older_same mark a b e h i g y f = h i g y (sym (ap (λ xs. found (slice_get xs i) g) e) ∙ f)

  pub from_older : (mark : ℕ) (s : Option (Entry X)) (y : Entry X) → older mark s ≡ Some y → s ≡ Some y
  from_older mark None y e = absurd (cc)
  from_older mark (Some x) y e = ap Some (cond_some (nat_lt x.born mark) x y e).1

  -- an arena without slots has no object
  pub older_empty : (mark : ℕ) (a : Arena X) → a.slots.items ≡ [] → AreOlder mark a
  older_empty mark a e i g y f = let k : found (slice_get a.slots.items i) g ≡ None = ap (λ (xs : List (Slot X)). found (slice_get xs i) g) e in absurd (cc)

  -- what another content keeps: how many places there are, and how old the objects are
  pub record Refilled {K : Type 0} (old new : Arena X) (p : Ptr K) (w : X) : Type 0 where
    pub few : HasFew old → HasFew new
    pub age : (mark : ℕ) → AreOlder mark old → AreOlder mark new
    pub here : option_map (λ o. o.content) (get new p) ≡ Some w

  pub refilled : {K : Type 0} (a : Arena X) (p : Ptr K) (x w : X) → option_map (λ o. o.content) (get a p) ≡ Some x → Refilled a (with_content_at a p.index w) p w
  refilled {K} a p x w e = go (get a p) refl e
    where
      go : (s : Option (Entry X)) → get a p ≡ s → option_map (λ o. o.content) s ≡ Some x → Refilled a (with_content_at a p.index w) p w
      go None f h = absurd (cc)
      go (Some o) f h =
          let d = edited a p o w f in
          record {
            few = λ n. let l = d.len in omega (arith, l, n);
            age = λ mark k. older_edited mark a (with_content_at a p.index w) p o (filled o w) k f refl d.updates;
            here = ap (option_map (λ o. o.content)) d.updates.changed;
          }

  -- the object under a pointer has another content, and nothing else changed
  pub record Replaced {K : Type 0} (old new : Arena X) (p : Ptr K) (x w : X) : Type 0 where
    pub born : ℕ
    pub was : get old p ≡ Some (record { born = born; content = x })
    pub now : get new p ≡ Some (record { born = born; content = w })
    pub others : (q : Ptr K) → q ≢ p → get new q ≡ get old q

  pub replaced : {K : Type 0} (a : Arena X) (p : Ptr K) (x w : X) → option_map (λ o. o.content) (get a p) ≡ Some x → Replaced a (with_content_at a p.index w) p x w
  replaced {K} a p x w e = go (get a p) refl e
    where
      go : (s : Option (Entry X)) → get a p ≡ s → option_map (λ o. o.content) s ≡ Some x → Replaced a (with_content_at a p.index w) p x w
      go None f h = absurd (cc)
      go (Some o) f h =
          let same : o.content ≡ x = cc in
          let d = edited a p o w f in
          record {
            born = o.born;
            was = f ∙ ap (λ y. Some (record { born = o.born; content = y })) same;
            now = d.updates.changed;
            others = d.updates.others;
          }

  -- what is the same of both contents is the same under every pointer
  pub same_view : {K V : Type 0} {old new : Arena X} {p : Ptr K} {x w : X} (view : Option (Entry X) → V) → Replaced old new p x w
      → ((b : ℕ) → view (Some (record { born = b; content = w })) ≡ view (Some (record { born = b; content = x }))) → (q : Ptr K) → view (get new q) ≡ view (get old q)
  same_view {old = old} {new = new} {p = p} view r same q = go (ptr_or q p)
    where
      go : (q ≡ p) ⊎ (q ≢ p) → view (get new q) ≡ view (get old q)
      go (inl e) = ap (λ q. view (get new q)) e ∙ ap view r.now ∙ same r.born ∙ sym (ap view r.was) ∙ sym (ap (λ q. view (get old q)) e)
      go (inr n) = ap view (r.others q n)

  -- what has a content is live
  pub content_is_live : {K : Type 0} (a : Arena X) (p : Ptr K) (x : X) → option_map (λ o. o.content) (get a p) ≡ Some x → (b : ℕ) × (get a p ≡ Some (record { born = b; content = x }))
  content_is_live a p x e = go (get a p) e
    where
      go : (s : Option (Entry X)) → option_map (λ o. o.content) s ≡ Some x → (b : ℕ) × (s ≡ Some (record { born = b; content = x }))
      go None h = absurd (cc)
      go (Some o) h = let same : o.content ≡ x = cc in (o.born, ap (λ y. Some (record { born = o.born; content = y })) same)

  -- another content of an object leaves the places as they are
  pub places_kept : {K : Type 0} (a : Arena X) (p : Ptr K) (x w : X) → option_map (λ o. o.content) (get a p) ≡ Some x → KeepsPlaces a (with_content_at a p.index w)
  places_kept {K} a p x w e = go (get a p) refl e
    where
      go : (s : Option (Entry X)) → get a p ≡ s → option_map (λ o. o.content) s ≡ Some x → KeepsPlaces a (with_content_at a p.index w)
      go None f h = absurd (cc)
      go (Some o) f h =
          let d = edited a p o w f in
          record {
            generations = d.generations;
            free = d.free;
            len = d.len;
            age = (refilled a p x w e).age;
          }

  none_yet : (s : Option (Slot X)) (g : ℕ) → drawn s < g → found s g ≡ None
  none_yet None g less = refl
  none_yet (Some (Vacant h n)) g less = refl
  none_yet (Some (Full h x)) g less = found_elsewhere h g x (λ e. omega (arith, e, less))

  -- no object was live under a pointer that is new
  pub was_none : {K : Type 0} (a b : Arena X) (p : Ptr K) (x : Entry X) → Inserts a b p x → get a p ≡ None
  was_none a b p x i = none_yet (slice_get a.slots.items p.index) p.generation (let n = i.next in omega (arith, n))

  -- what is the same of a new object and of none is the same under every pointer
  pub new_view : {K V : Type 0} (view : Option (Entry X) → V) (a b : Arena X) (p : Ptr K) (x : Entry X) → Inserts a b p x → view (Some x) ≡ view None → (q : Ptr K) → view (get b q) ≡ view (get a q)
  new_view view a b p x i same q = go (ptr_or q p)
    where
      go : (q ≡ p) ⊎ (q ≢ p) → view (get b q) ≡ view (get a q)
      go (inl e) = ap (λ q. view (get b q)) e ∙ ap view i.updates.changed ∙ same ∙ sym (ap view (was_none a b p x i)) ∙ sym (ap (λ q. view (get a q)) e)
      go (inr n) = ap view (i.updates.others q n)
