-- The parents, children and data of the objects in an arena, by their pointers.
use Rattle.std.specs.Prelude.{◌≡◌, ◌≢◌, ℕ, List, [], length, Option, Some, None, sum_by}
use Rattle.irtext_few.specs.Growing.{listed, HasPlace}
use Rattle.irtext_graph.specs.declared.arena.Slot.{Slot}
use Rattle.irtext_graph.specs.declared.arena.Slot.TheVariants.{Vacant, Full}
use Rattle.irtext_graph.specs.declared.arena.Entry.{Entry}
use Rattle.irtext_graph.specs.declared.arena.Arena.{Arena}
use Rattle.irtext_graph.specs.declared.arena.Ptr.{Ptr}
use Rattle.irtext_graph.specs.declared.nest.Nest.{Nest}
use Rattle.irtext_graph.specs.Arena.{get, KeepsPlaces}

module _ {P C D : Type 0} where
  -- the parent of an object, if there is one
  abbrev pub parent_in : Option (Entry (Nest P C D)) → Option (Ptr P)
  parent_in None = None
  parent_in (Some x) = x.content.parent

  -- the children of an object in order, if there is one
  abbrev pub children_in : Option (Entry (Nest P C D)) → List (Ptr C)
  children_in None = []
  children_in (Some x) = listed x.content.children

  -- how many objects were made before an object, and its data
  abbrev pub datum_in : Option (Entry (Nest P C D)) → Option (ℕ × D)
  datum_in None = None
  datum_in (Some x) = Some (x.born, x.content.data)

  -- the object is live, and has room for one more child
  abbrev pub HasRoom : Option (Entry (Nest P C D)) → Type 0
  HasRoom None = ⊥
  HasRoom (Some x) = HasPlace x.content.children

  -- the parent of the object that a pointer refers to
  abbrev pub up : {K : Type 0} → Arena (Nest P C D) → Ptr K → Option (Ptr P)
  up a p = parent_in (get a p)

  -- the children of the object that a pointer refers to
  abbrev pub kids : {K : Type 0} → Arena (Nest P C D) → Ptr K → List (Ptr C)
  kids a p = children_in (get a p)

  -- the age and the data of the object that a pointer refers to
  abbrev pub datum : {K : Type 0} → Arena (Nest P C D) → Ptr K → Option (ℕ × D)
  datum a p = datum_in (get a p)

  -- the number of children of the object in a slot
  abbrev pub size : Slot (Nest P C D) → ℕ
  size (Vacant _ _) = 0
  size (Full _ x) = length (listed x.content.children)

  -- the number of children of all objects
  abbrev pub links : Arena (Nest P C D) → ℕ
  links a = sum_by size a.slots.items

  -- only the list of one object's children may have changed, and nothing else of the arena
  pub record OnlyLists {K : Type 0} (old new : Arena (Nest P C D)) (p : Ptr K) : Type 0 where
    pub others : (q : Ptr K) → q ≢ p → kids new q ≡ kids old q
    pub ups : (q : Ptr K) → up new q ≡ up old q
    pub all_data : (q : Ptr K) → datum new q ≡ datum old q
    pub places : KeepsPlaces old new
