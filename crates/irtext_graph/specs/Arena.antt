-- The objects in an arena under their pointers, and the pointer of the next object.
use Rattle.std.specs.Prelude.{◌≡◌, ◌≢◌, ◌<◌, ◌≤◌, ◌+◌, ◌==◌, ◌⊎◌, ℕ, Bool, true, false, length, Option, Some, None, slice_get, if◌then◌else◌, nat_lt, unwrap_or}
use Rattle.irtext_graph.specs.declared.arena.Slot.{Slot}
use Rattle.irtext_graph.specs.declared.arena.Slot.TheVariants.{Vacant, Full}
use Rattle.irtext_graph.specs.declared.arena.Entry.{Entry}
use Rattle.irtext_graph.specs.declared.arena.Arena.{Arena}
use Rattle.irtext_graph.specs.declared.arena.Ptr.{Ptr}

-- there is a number, and it is at least the mark
abbrev pub AtLeast : ℕ → Option ℕ → Type 0
AtLeast mark None = ⊥
AtLeast mark (Some n) = mark ≤ n

module _ {X : Type 0} where
  -- the last generation that a slot was given
  abbrev pub generation_of : Slot X → ℕ
  generation_of (Vacant g _) = g
  generation_of (Full g _) = g

  -- the object in a slot
  abbrev pub held : Slot X → Option (Entry X)
  held (Vacant _ _) = None
  held (Full _ x) = Some x

  -- the object in a slot, if it has this generation
  abbrev pub content : Slot X → ℕ → Option (Entry X)
  content (Vacant _ _) g = None
  content (Full h x) g = (if h == g then Some x else None)

  -- the same if there may be no such slot
  abbrev pub found : Option (Slot X) → ℕ → Option (Entry X)
  found None g = None
  found (Some s) g = content s g

  -- the last generation that a slot was given; 0 if there is no such slot
  abbrev pub drawn : Option (Slot X) → ℕ
  drawn None = 0
  drawn (Some s) = generation_of s

  -- an object is in the slot
  abbrev pub is_full : Slot X → Bool
  is_full (Vacant _ _) = false
  is_full (Full _ _) = true

  -- the slot is free, and its generations are not exhausted
  abbrev pub is_usable : Option (Slot X) → Bool
  is_usable None = false
  is_usable (Some (Vacant g _)) = nat_lt g 4294967294
  is_usable (Some (Full _ _)) = false

  -- the object that a pointer refers to
  abbrev pub get : {K : Type 0} → Arena X → Ptr K → Option (Entry X)
  get a p = found (slice_get a.slots.items p.index) p.generation

  -- the last generation of the slot at an index
  abbrev pub generation_at : Arena X → ℕ → ℕ
  generation_at a i = drawn (slice_get a.slots.items i)

  -- the slot that was freed last, if it can be used again
  abbrev pub free_place : Arena X → Option ℕ
  free_place a = (if is_usable (slice_get a.slots.items a.free) then Some a.free else None)

  -- the slot of the next object: that one, or else a new one
  abbrev pub next_index : Arena X → ℕ
  next_index a = unwrap_or (free_place a) (length a.slots.items)

  -- the index of each slot is less than `u32::MAX`
  abbrev pub HasFew : Arena X → Type 0
  HasFew a = length a.slots.items ≤ 4294967295

  -- the pointer refers to this in the new arena; what every other pointer refers to is unchanged
  pub record Updates {K : Type 0} (old new : Arena X) (p : Ptr K) (x : Option (Entry X)) : Type 0 where
    pub changed : get new p ≡ x
    pub others : (q : Ptr K) → q ≢ p → get new q ≡ get old q

  -- an object was stored in the next slot, under the next generation of that slot
  pub record Inserts {K : Type 0} (old new : Arena X) (p : Ptr K) (x : Entry X) : Type 0 where
    pub place : p.index ≡ next_index old
    pub next : p.generation ≡ generation_at old p.index + 1
    pub drawn_here : generation_at new p.index ≡ p.generation
    pub drawn_elsewhere : (i : ℕ) → i ≢ p.index → generation_at new i ≡ generation_at old i
    pub updates : Updates old new p (Some x)
    pub none_free : free_place old ≡ None → free_place new ≡ None

  -- the object, if it was made before the mark
  abbrev pub older : ℕ → Option (Entry X) → Option (Entry X)
  older mark None = None
  older mark (Some x) = (if nat_lt x.born mark then Some x else None)

  -- how many objects were made before an object, if there is one
  abbrev pub born_in : Option (Entry X) → Option ℕ
  born_in None = None
  born_in (Some x) = Some x.born

  -- each object is unchanged, or was not made before the mark and is gone
  pub record Sheds (mark : ℕ) (old new : Arena X) : Type 0 where
    pub at : (i g : ℕ) → (found (slice_get new.slots.items i) g ≡ found (slice_get old.slots.items i) g)
        ⊎ ((found (slice_get new.slots.items i) g ≡ None) × AtLeast mark (born_in (found (slice_get old.slots.items i) g)))
    pub generations : (i : ℕ) → generation_at new i ≡ generation_at old i
    pub few : HasFew old → HasFew new

  -- the object with another content
  abbrev pub filled : Entry X → X → Entry X
  filled o x = record o { content = x }

  -- the slot with another content of its object
  abbrev pub with_content : Slot X → X → Slot X
  with_content (Vacant g next) x = Vacant g next
  with_content (Full g o) x = Full g (filled o x)

  -- every object was made before the mark
  abbrev pub AreOlder : ℕ → Arena X → Type 0
  AreOlder mark a = (i g : ℕ) (o : Entry X) → found (slice_get a.slots.items i) g ≡ Some o → o.born < mark

  -- the slots have the same generations and are as many, and no object is younger
  pub record ShedsPlaces (old new : Arena X) : Type 0 where
    pub generations : (i : ℕ) → generation_at new i ≡ generation_at old i
    pub len : length new.slots.items ≡ length old.slots.items
    pub age : (mark : ℕ) → AreOlder mark old → AreOlder mark new

  -- the slots are unchanged: their generations, which is used next, and how old the objects are
  pub record KeepsPlaces (old new : Arena X) : Type 0 where
    pub generations : (i : ℕ) → generation_at new i ≡ generation_at old i
    pub free : free_place new ≡ free_place old
    pub len : length new.slots.items ≡ length old.slots.items
    pub age : (mark : ℕ) → AreOlder mark old → AreOlder mark new
