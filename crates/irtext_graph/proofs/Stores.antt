-- What is seen of an arena is what it holds.
use Rattle.std.proofs.Common.{◌≡◌, ◌≢◌, ◌<◌, ◌≤◌, ◌+◌, ◌∙◌, ◌⊎◌, inl, inr, ◌==◌, ℕ, suc, refl, sym, ap, subst, arith, Bool, true, false, cond, nat_lt, Option, Some, None, List, [], ◌∷◌, length, slice_get, set, zero, map, IsSome, unwrap_or, count_by}
use Rattle.std.specs.Option.{option_map}
use Rattle.std.proofs.lemmas.Option.{slice_get-map}
use Rattle.std.proofs.lemmas.List.Sums.{sum_by-cons}
use Rattle.std.proofs.lemmas.Bool.{ne_eqb, lt-ltb, ltb-false, le-ltb}
use Rattle.irtext_graph.specs.declared.arena.Slot.{Slot}
use Rattle.irtext_graph.specs.declared.arena.Slot.TheVariants.{Vacant, Full}
use Rattle.irtext_graph.specs.declared.arena.Entry.{Entry}
use Rattle.irtext_graph.specs.declared.arena.Arena.{Arena}
use Rattle.irtext_graph.specs.declared.arena.Ptr.{Ptr}
use Rattle.irtext_graph.specs.Arena as arena
use Rattle.irtext_graph.specs.Arena.{AreOlder, older}
use Rattle.irtext_graph.specs.Store.{Cell, Store, object_of, cell_of, store_of, mapped, object_in, get, drawn, generation_at, next_index, is_full, count, Updates, Inserts, Edits, before, Returns}
use Rattle.irtext_graph.proofs.Pointers.{ptr_or}
use Rattle.irtext_graph.specs.Lending.{with_content_at}
use Rattle.irtext_graph.proofs.Arenas.{Edited, edited, lent, in_slot}

-- what is seen of an option that is mapped is what is seen of the option, if that holds of each value and of none
pub seen_mapped : {A B V : Type 0} (change : A → B) (f : Option B → V) (g : Option A → V) → f None ≡ g None → ((a : A) → f (Some (change a)) ≡ g (Some a)) → (s : Option A) → f (option_map change s) ≡ g s
seen_mapped change f g none some None = none
seen_mapped change f g none some (Some a) = some a

-- two views of an option are the same where they are the same of each value and of none
pub same_views : {A V : Type 0} (f g : Option A → V) → f None ≡ g None → ((a : A) → f (Some a) ≡ g (Some a)) → (s : Option A) → f s ≡ g s
same_views f g none some None = none
same_views f g none some (Some a) = some a

-- what an edit leaves of each object is seen of all objects as before
pub edited_same : {X V K : Type 0} (old new : Store X) (p : Ptr K) (change : X → X) (f : Option (Entry X) → V) → ((o : Entry X) → f (Some (object_of change o)) ≡ f (Some o)) → Edits old new p change → (q : Ptr K) → f (get new q) ≡ f (get old q)
edited_same old new p change f same e q = elim (ptr_or q p) [
  | inl here ↦ ap (λ r. f (get new r)) here ∙ ap f e.updates.changed ∙ seen_mapped (object_of change) f f refl same (get old p) ∙ sym (ap (λ r. f (get old r)) here)
  | inr ne ↦ ap f (e.updates.others q ne)
]

module _ {X Y : Type 0} (see : X → Y) where
  pub held : (s : Option (Slot X)) (g : ℕ) → object_in (option_map (cell_of see) s) g ≡ option_map (object_of see) (arena.found s g)
  held None g = refl
  held (Some (Vacant h n)) g = go (h == g) None
    where
      go : (t : Bool) (o : Option (Entry Y)) → cond t o o ≡ o
      go true o = refl
      go false o = refl
  held (Some (Full h x)) g = go (h == g)
    where
      go : (t : Bool) → cond t (Some (object_of see x)) None ≡ option_map (object_of see) (cond t (Some x) None)
      go true = refl
      go false = refl

  -- the object of a place, under a generation
  pub found_seen : (a : Arena X) (i g : ℕ) → object_in (slice_get (store_of see a).cells i) g ≡ option_map (object_of see) (arena.found (slice_get a.slots.items i) g)
  found_seen a i g = ap (λ s. object_in s g) (slice_get-map (cell_of see) a.slots.items i) ∙ held (slice_get a.slots.items i) g

  -- the object under a pointer
  pub get_seen : {K : Type 0} (a : Arena X) (p : Ptr K) → get (store_of see a) p ≡ option_map (object_of see) (arena.get a p)
  get_seen a p = found_seen a p.index p.generation

  drawn_seen : (s : Option (Slot X)) → drawn (option_map (cell_of see) s) ≡ arena.drawn s
  drawn_seen None = refl
  drawn_seen (Some (Vacant h n)) = refl
  drawn_seen (Some (Full h x)) = refl

  -- the last generation of a place
  pub generation_seen : (a : Arena X) (i : ℕ) → generation_at (store_of see a) i ≡ arena.generation_at a i
  generation_seen a i = ap drawn (slice_get-map (cell_of see) a.slots.items i) ∙ drawn_seen (slice_get a.slots.items i)

  pub length_seen : (xs : List (Slot X)) → length (map (cell_of see) xs) ≡ length xs
  length_seen [] = refl
  length_seen (x ∷ xs) = ap suc (length_seen xs)

  -- the place that the next object takes
  pub next_seen : (a : Arena X) → next_index (store_of see a) ≡ arena.next_index a
  next_seen a = ap (unwrap_or (arena.free_place a)) (length_seen a.slots.items)

  -- how many objects are live
  pub count_seen : (a : Arena X) → count (store_of see a) ≡ count_by arena.is_full a.slots.items
  count_seen a = go a.slots.items
    where
      go : (xs : List (Slot X)) → count_by is_full (map (cell_of see) xs) ≡ count_by arena.is_full xs
      go [] = refl
      go (Vacant g n ∷ xs) = sum_by-cons (λ c. cond (is_full c) 1 0) (cell_of see (Vacant g n)) (map (cell_of see) xs) ∙ ap (λ n. 0 + n) (go xs) ∙ sym (sum_by-cons (λ s. cond (arena.is_full s) 1 0) (Vacant g n) xs)
      go (Full g o ∷ xs) = sum_by-cons (λ c. cond (is_full c) 1 0) (cell_of see (Full g o)) (map (cell_of see) xs) ∙ ap (λ n. 1 + n) (go xs) ∙ sym (sum_by-cons (λ s. cond (arena.is_full s) 1 0) (Full g o) xs)

  -- an arena with the same slots and the same free place is seen as the same
  pub store_same : (a b : Arena X) → b.slots.items ≡ a.slots.items → b.free ≡ a.free → store_of see b ≡ store_of see a
  store_same a b e f = rw (e, f) refl

  updates_seen : {K : Type 0} (a b : Arena X) (p : Ptr K) (x : Option (Entry X)) → arena.Updates a b p x → Updates (store_of see a) (store_of see b) p (option_map (object_of see) x)
  updates_seen a b p x u = record {
    changed = get_seen b p ∙ ap (option_map (object_of see)) u.changed;
    others = λ q n. get_seen b q ∙ ap (option_map (object_of see)) (u.others q n) ∙ sym (get_seen a q);
  }

  -- an insertion
  pub inserts_seen : {K : Type 0} (a b : Arena X) (p : Ptr K) (x : Entry X) → arena.Inserts a b p x → Inserts (store_of see a) (store_of see b) p (object_of see x)
  inserts_seen a b p x i = record {
    place = i.place ∙ sym (next_seen a);
    next = i.next ∙ ap (λ n. n + 1) (sym (generation_seen a p.index));
    drawn_here = generation_seen b p.index ∙ i.drawn_here;
    drawn_elsewhere = λ j n. generation_seen b j ∙ i.drawn_elsewhere j n ∙ sym (generation_seen a j);
    updates = updates_seen a b p (Some x) i.updates;
    none_free = i.none_free;
  }

  -- an edit of one content, where `change` is what is seen of it
  pub edits_seen : {K : Type 0} (a b : Arena X) (p : Ptr K) (o x : Entry X) (change : Y → Y) → arena.get a p ≡ Some o → Edited a b p x
      → x.born ≡ o.born → see x.content ≡ change (see o.content) → Edits (store_of see a) (store_of see b) p change
  edits_seen a b p o x change e d born seen =
      let u = updates_seen a b p (Some x) d.updates in
      let same : object_of see x ≡ object_of change (object_of see o) = rw (born, seen) refl in
      let was : get (store_of see a) p ≡ Some (object_of see o) = get_seen a p ∙ ap (option_map (object_of see)) e in
      record {
        updates = record { changed = u.changed ∙ ap Some same ∙ sym (ap (option_map (object_of change)) was); others = u.others };
        generations = λ i. generation_seen b i ∙ d.generations i ∙ sym (generation_seen a i);
        free = d.free;
        len = length_seen b.slots.items ∙ d.len ∙ sym (length_seen a.slots.items);
      }

  -- an object with a view is live
  pub seen_is_live : {K : Type 0} (a : Arena X) (p : Ptr K) → IsSome (option_map (λ o. o.content) (get (store_of see a) p)) → IsSome (arena.get a p)
  seen_is_live a p l = go (arena.get a p) (subst (λ s. IsSome (option_map (λ o. o.content) s)) (get_seen a p) l)
    where
      go : (s : Option (Entry X)) → IsSome (option_map (λ o. o.content) (option_map (object_of see) s)) → IsSome s
      go None l = absurd (cc)
      go (Some o) l = refl

  content_same_at : {K : Type 0} (a : Arena X) (p : Ptr K) (o : Entry X) (w : X) → arena.get a p ≡ Some o → see w ≡ see o.content → store_of see (with_content_at a p.index w) ≡ store_of see a
  content_same_at a p o w e same =
      let b = with_content_at a p.index w in
      let d = edited a p o w e in
      let cells : map (cell_of see) b.slots.items ≡ map (cell_of see) a.slots.items =
      ap (λ (c : Arena X). map (cell_of see) c.slots.items) (lent a p o w e)
      ∙ set_same a.slots.items p.index (Full p.generation (arena.filled o w)) (Full p.generation o) (in_slot (slice_get a.slots.items p.index) p.generation o e)
      (ap (λ y. record { generation = p.generation; object = Some (record { born = o.born; content = y }) }) same) in
      rw (cells, d.free) refl
    where
      set_same : (xs : List (Slot X)) (i : ℕ) (s t : Slot X) → slice_get xs i ≡ Some t → cell_of see s ≡ cell_of see t → map (cell_of see) (set xs i s) ≡ map (cell_of see) xs
      set_same [] i s t e same = refl
      set_same (x ∷ xs) zero s t e same = let k : x ≡ t = cc in ap (λ c. c ∷ map (cell_of see) xs) (same ∙ sym (ap (cell_of see) k))
      set_same (x ∷ xs) (suc i) s t e same = ap (λ cs. cell_of see x ∷ cs) (set_same xs i s t e same)

  -- another content that is seen as the same
  pub content_same : {K : Type 0} (a : Arena X) (p : Ptr K) (x w : X) → option_map (λ o. o.content) (arena.get a p) ≡ Some x → see w ≡ see x → store_of see (with_content_at a p.index w) ≡ store_of see a
  content_same a p x w e same = go (arena.get a p) refl e
    where
      go : (s : Option (Entry X)) → arena.get a p ≡ s → option_map (λ o. o.content) s ≡ Some x → store_of see (with_content_at a p.index w) ≡ store_of see a
      go None f h = absurd (cc)
      go (Some o) f h = let k : o.content ≡ x = cc in content_same_at a p o w f (same ∙ ap see (sym k))

  -- another content, where `change` is what is seen of it
  pub content_edits : {K : Type 0} (change : Y → Y) (a : Arena X) (p : Ptr K) (x w : X) → option_map (λ o. o.content) (arena.get a p) ≡ Some x → see w ≡ change (see x)
      → Edits (store_of see a) (store_of see (with_content_at a p.index w)) p change
  content_edits {K} change a p x w e seen = go (arena.get a p) refl e
    where
      go : (s : Option (Entry X)) → arena.get a p ≡ s → option_map (λ o. o.content) s ≡ Some x → Edits (store_of see a) (store_of see (with_content_at a p.index w)) p change
      go None f h = absurd (cc)
      go (Some o) f h =
          let k : o.content ≡ x = cc in
          edits_seen a (with_content_at a p.index w) p o (arena.filled o w) change f (edited a p o w f) refl (seen ∙ ap (λ y. change (see y)) (sym k))

  older_seen : (mark : ℕ) (s : Option (Entry X)) → older mark (option_map (object_of see) s) ≡ option_map (object_of see) (older mark s)
  older_seen mark None = refl
  older_seen mark (Some x) = go (nat_lt x.born mark)
    where
      go : (t : Bool) → cond t (Some (object_of see x)) None ≡ option_map (object_of see) (cond t (Some x) None)
      go true = refl
      go false = refl

  -- every object is older than the mark
  pub older_all_seen : {K : Type 0} (mark : ℕ) (a : Arena X) → arena.AreOlder mark a → (p : Ptr K) → before mark (store_of see a) p ≡ get (store_of see a) p
  older_all_seen {K} mark a h p =
      ap (older mark) (get_seen a p) ∙ older_seen mark (arena.get a p) ∙ ap (option_map (object_of see)) (go (arena.get a p) (h p.index p.generation)) ∙ sym (get_seen a p)
    where
      go : (s : Option (Entry X)) → ((o : Entry X) → s ≡ Some o → o.born < mark) → older mark s ≡ s
      go None k = refl
      go (Some o) k = ap (λ b. cond b (Some o) None) (lt-ltb o.born mark (k o refl))

  -- a roll-back
  pub returns_seen : {K : Type 0} (mark : ℕ) (a b : Arena X) → ((p : Ptr K) → arena.get b p ≡ older mark (arena.get a p))
      → ((i : ℕ) → arena.generation_at b i ≡ arena.generation_at a i) → Returns K mark (store_of see a) (store_of see b)
  returns_seen mark a b at gens = record {
    at = λ p. get_seen b p ∙ ap (option_map (object_of see)) (at p) ∙ sym (older_seen mark (arena.get a p)) ∙ sym (ap (older mark) (get_seen a p));
    generations = λ i. generation_seen b i ∙ gens i ∙ sym (generation_seen a i);
  }

module _ {X : Type 0} where
  -- no object is live under a generation that was not yet used
  none_yet : (s : Option (Cell X)) (g : ℕ) → drawn s < g → object_in s g ≡ None
  none_yet None g less = refl
  none_yet (Some c) g less = ap (λ b. cond b c.object None) (ne_eqb c.generation g (λ e. omega (arith, e, less)))

  -- where an object was stored none was before
  pub inserted_new : {K : Type 0} (old new : Store X) (p : Ptr K) (x : Entry X) → Inserts old new p x → get old p ≡ None
  inserted_new old new p x i = none_yet (slice_get old.cells p.index) p.generation (let n = i.next in omega (arith, n))

  -- what is no older than a mark is not there before it
  not_older : (mark : ℕ) (o : Entry X) → mark ≤ o.born → older mark (Some o) ≡ None
  not_older mark o up = ap (λ b. cond b (Some o) None) (le-ltb o.born mark up)

  older_older : (m mark : ℕ) (s : Option (Entry X)) → m ≤ mark → older m (older mark s) ≡ older m s
  older_older m mark None up = refl
  older_older m mark (Some o) up = go (nat_lt o.born mark) refl
    where
      go : (t : Bool) → nat_lt o.born mark ≡ t → older m (cond t (Some o) None) ≡ older m (Some o)
      go true e = refl
      go false e = let k = ltb-false o.born mark e in sym (not_older m o (omega (arith, k, up)))

  -- an insertion keeps what is older than the new object
  pub inserted-keeps : {K : Type 0} (mark : ℕ) (old new : Store X) (p : Ptr K) (x : Entry X) → mark ≤ x.born → Inserts old new p x → (q : Ptr K) → before mark new q ≡ before mark old q
  inserted-keeps mark old new p x up i q = go (ptr_or q p)
    where
      go : (q ≡ p) ⊎ (q ≢ p) → before mark new q ≡ before mark old q
      go (inl s) =
          ap (before mark new) s ∙ ap (older mark) i.updates.changed ∙ not_older mark x up ∙ sym (ap (older mark) (inserted_new old new p x i)) ∙ sym (ap (before mark old) s)
      go (inr n) = ap (older mark) (i.updates.others q n)

  -- an edit keeps what is older than the object
  pub edited-keeps : {K : Type 0} (mark : ℕ) (old new : Store X) (p : Ptr K) (change : X → X) → before mark old p ≡ None → Edits old new p change → (q : Ptr K) → before mark new q ≡ before mark old q
  edited-keeps mark old new p change none e q = go (ptr_or q p)
    where
      go : (q ≡ p) ⊎ (q ≢ p) → before mark new q ≡ before mark old q
      go (inl s) =
          ap (before mark new) s ∙ ap (older mark) e.updates.changed ∙ older_seen change mark (get old p) ∙ ap (option_map (object_of change)) none
          ∙ sym none ∙ sym (ap (before mark old) s)
      go (inr n) = ap (older mark) (e.updates.others q n)

  -- a roll-back keeps what is older than its mark
  pub returned-keeps : {K : Type 0} (m mark : ℕ) (old new : Store X) → m ≤ mark → Returns K mark old new → (q : Ptr K) → before m new q ≡ before m old q
  returned-keeps m mark old new up r q = ap (older m) (r.at q) ∙ older_older m mark (get old q) up

-- an arena that is seen through two views, one after the other
pub mapped_seen : {X Y Z : Type 0} (see : X → Y) (f : Y → Z) (a : Arena X) → mapped f (store_of see a) ≡ store_of (λ x. f (see x)) a
mapped_seen {X} see f a = ap (λ cs. record { cells = cs; free = arena.free_place a }) (go a.slots.items)
  where
    go : (xs : List (Slot X)) → map (λ c. record { generation = c.generation; object = option_map (object_of f) c.object }) (map (cell_of see) xs) ≡ map (cell_of (λ x. f (see x))) xs
    go [] = refl
    go (Vacant g n ∷ xs) = ap (λ cs. cell_of (λ x. f (see x)) (Vacant g n) ∷ cs) (go xs)
    go (Full g o ∷ xs) = ap (λ cs. cell_of (λ x. f (see x)) (Full g o) ∷ cs) (go xs)

-- the object under a pointer in a store with other contents
pub get_mapped : {X Y K : Type 0} (f : X → Y) (s : Store X) (p : Ptr K) → get (mapped f s) p ≡ option_map (object_of f) (get s p)
get_mapped {X} {Y} f s p = ap (λ c. object_in c p.generation) (slice_get-map (λ (c : Cell X). record { generation = c.generation; object = option_map (object_of f) c.object }) s.cells p.index) ∙ go (slice_get s.cells p.index)
  where
    go : (c : Option (Cell X)) → object_in (option_map (λ c. record { generation = c.generation; object = option_map (object_of f) c.object }) c) p.generation ≡ option_map (object_of f) (object_in c p.generation)
    go None = refl
    go (Some c) = cases (c.generation == p.generation)
      where
        cases : (t : Bool) → cond t (option_map (object_of f) c.object) None ≡ option_map (object_of f) (cond t c.object None)
        cases true = refl
        cases false = refl

module _ {X Y : Type 0} (see : X → Y) where
  -- what is seen as the same is of the same age
  pub older_of : (made : ℕ) (a b : Arena X) → store_of see b ≡ store_of see a → AreOlder made a → AreOlder made b
  older_of made a b e h i g o f =
      go (arena.found (slice_get a.slots.items i) g) refl
      (sym (found_seen see a i g) ∙ ap (λ s. object_in (slice_get s.cells i) g) (sym e) ∙ found_seen see b i g ∙ ap (option_map (object_of see)) f)
    where
      go : (s : Option (Entry X)) → arena.found (slice_get a.slots.items i) g ≡ s → option_map (object_of see) s ≡ Some (object_of see o) → o.born < made
      go None k q = absurd (cc)
      go (Some x) k q =
          let r : object_of see x ≡ object_of see o = cc in
          let n : x.born ≡ o.born = ap (λ (z : Entry Y). z.born) r in
          let l = h i g x k in
          omega (arith, l, n)
