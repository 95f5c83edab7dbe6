-- An arena as its callers see it: the objects under their pointers, the last generation of each slot, and the slot that is used next.
use Rattle.std.specs.Prelude.{◌≡◌, ◌≢◌, ◌≤◌, ◌+◌, ◌==◌, if◌then◌else◌, ℕ, Bool, List, length, Option, Some, None, map, slice_get, is_some, count_by, unwrap_or}
use Rattle.std.specs.Option.{option_map}
use Rattle.irtext_graph.specs.Arena as arena
use Rattle.irtext_graph.specs.Arena.{older}
use Rattle.irtext_graph.specs.declared.arena.Slot.{Slot}
use Rattle.irtext_graph.specs.declared.arena.Slot.TheVariants.{Vacant, Full}
use Rattle.irtext_graph.specs.declared.arena.Arena.{Arena}
use Rattle.irtext_graph.specs.declared.arena.Entry.{Entry}
use Rattle.irtext_graph.specs.declared.arena.Ptr.{Ptr}

-- a slot: the last generation that it was given, and the object in it
pub record Cell (X : Type 0) : Type 0 where
  pub generation : ℕ
  pub object : Option (Entry X)

-- the objects of one kind: their slots, and the slot that was freed last, if it can be used again
pub record Store (X : Type 0) : Type 0 where
  pub cells : List (Cell X)
  pub free : Option ℕ

module _ {X Y : Type 0} (see : X → Y) where
  -- an object, with its content as `see` shows it
  abbrev pub object_of : Entry X → Entry Y
  object_of o = record { born = o.born; content = see o.content }

  -- a slot, with the content of its object as `see` shows it
  abbrev pub cell_of : Slot X → Cell Y
  cell_of (Vacant g _) = record { generation = g; object = None }
  cell_of (Full g o) = record { generation = g; object = Some (object_of o) }

  -- an arena, with the contents of its objects as `see` shows them
  abbrev pub store_of : Arena X → Store Y
  store_of a = record { cells = map cell_of a.slots.items; free = arena.free_place a }

  -- a store with the contents of its objects as `see` shows them
  abbrev pub mapped : Store X → Store Y
  mapped s = record {
    cells = map (λ c. record { generation = c.generation; object = option_map object_of c.object }) s.cells;
    free = s.free;
  }

module _ {X : Type 0} where
  -- the object in a slot, if it has this generation
  abbrev pub object_in : Option (Cell X) → ℕ → Option (Entry X)
  object_in None g = None
  object_in (Some c) g = (if c.generation == g then c.object else None)

  -- the object that a pointer refers to
  abbrev pub get : {K : Type 0} → Store X → Ptr K → Option (Entry X)
  get s p = object_in (slice_get s.cells p.index) p.generation

  -- the last generation that a slot was given; 0 if there is no such slot
  abbrev pub drawn : Option (Cell X) → ℕ
  drawn None = 0
  drawn (Some c) = c.generation

  -- the last generation of the slot at an index
  abbrev pub generation_at : Store X → ℕ → ℕ
  generation_at s i = drawn (slice_get s.cells i)

  -- the slot of the next object: the one freed last, or else a new one
  abbrev pub next_index : Store X → ℕ
  next_index s = unwrap_or s.free (length s.cells)

  -- an object is in the slot
  abbrev pub is_full : Cell X → Bool
  is_full c = is_some c.object

  -- the number of live objects
  abbrev pub count : Store X → ℕ
  count s = count_by is_full s.cells

  -- the pointer refers to this in the new store; what every other pointer refers to is unchanged
  pub record Updates {K : Type 0} (old new : Store X) (p : Ptr K) (x : Option (Entry X)) : Type 0 where
    pub changed : get new p ≡ x
    pub others : (q : Ptr K) → q ≢ p → get new q ≡ get old q

  -- an object was stored in the next slot, under the next generation of that slot
  pub record Inserts {K : Type 0} (old new : Store X) (p : Ptr K) (x : Entry X) : Type 0 where
    pub place : p.index ≡ next_index old
    pub next : p.generation ≡ generation_at old p.index + 1
    pub drawn_here : generation_at new p.index ≡ p.generation
    pub drawn_elsewhere : (i : ℕ) → i ≢ p.index → generation_at new i ≡ generation_at old i
    pub updates : Updates old new p (Some x)
    pub none_free : old.free ≡ None → new.free ≡ None

  -- the content of one object changed, and nothing else
  pub record Edits {K : Type 0} (old new : Store X) (p : Ptr K) (change : X → X) : Type 0 where
    pub updates : Updates old new p (option_map (object_of change) (get old p))
    pub generations : (i : ℕ) → generation_at new i ≡ generation_at old i
    pub free : new.free ≡ old.free
    pub len : length new.cells ≡ length old.cells

  -- no pointer is given twice: the last generation of a slot does not go back, and a pointer whose object is gone refers to nothing again
  pub record GivenOnce (K : Type 0) (old new : Store X) : Type 0 where
    pub rises : (i : ℕ) → generation_at old i ≤ generation_at new i
    pub gone : (p : Ptr K) → p.generation ≤ generation_at old p.index → get old p ≡ None → get new p ≡ None

  -- the object that a pointer refers to, if it was made before the mark
  abbrev pub before : {K : Type 0} → ℕ → Store X → Ptr K → Option (Entry X)
  before mark s p = older mark (get s p)

  -- what was made before the mark is unchanged, and all else is gone; no generation is used again
  pub record Returns (K : Type 0) (mark : ℕ) (old new : Store X) : Type 0 where
    pub at : (p : Ptr K) → get new p ≡ before mark old p
    pub generations : (i : ℕ) → generation_at new i ≡ generation_at old i
