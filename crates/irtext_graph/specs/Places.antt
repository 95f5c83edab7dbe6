-- For callers: the live objects in the slots of a graph.
use Rattle.std.specs.Prelude.{ℕ, slice_get, Option, Some, None}
use Rattle.std.specs.Option.{option_map, option_and_then}
use Rattle.irtext_graph.specs.Store.{Cell, Store}
use Rattle.irtext_graph.specs.declared.arena.Slot.{Slot}
use Rattle.irtext_graph.specs.declared.arena.Slot.TheVariants.{Vacant, Full}
use Rattle.irtext_graph.specs.declared.arena.Ptr.{Ptr}

-- the pointer to a slot, with a generation
abbrev pub pointer : {K : Type 0} → ℕ → ℕ → Ptr K
pointer i g = record { index = i; generation = g; of = record {} }

module _ {X : Type 0} where
  -- the pointer to the object in a slot, if there is one
  abbrev pub pointer_of : {K : Type 0} → ℕ → Cell X → Option (Ptr K)
  pointer_of i c = option_map (λ e. pointer i c.generation) c.object

  -- the pointer to the object in the slot at an index, if there is one
  abbrev pub pointer_at : {K : Type 0} → Store X → ℕ → Option (Ptr K)
  pointer_at s i = option_and_then (pointer_of i) (slice_get s.cells i)

  -- the same for a slot of an arena
  abbrev pub pointer_in : {K : Type 0} → ℕ → Option (Slot X) → Option (Ptr K)
  pointer_in i None = None
  pointer_in i (Some (Vacant g n)) = None
  pointer_in i (Some (Full g x)) = Some (pointer i g)
