-- When a graph is full: it cannot have one more object, since a counter is at its limit. No allocation is refused then.
use Rattle.std.specs.Prelude.{◌≡◌, ◌≤◌, ◌<◌, ◌+◌, ◌⊎◌, ℕ, length, Option, None}
use Rattle.irtext_graph.specs.Store.{Store}
use Rattle.irtext_graph.specs.Graph.{GraphView}

-- no more objects can be counted; or none of the freed slots can be used again, and the number of a new one would not be less than
-- `u32::MAX`. The arena has so many slots, which are numbered from `first`.
abbrev pub IsFull : ℕ → ℕ → Option ℕ → ℕ → Type 0
IsFull made first free slots = (18446744073709551615 ≤ made) ⊎ ((free ≡ None) × (4294967295 ≤ first + slots))

-- a freed slot can be used again, or there can be a new one
abbrev pub HasSlot : Option ℕ → ℕ → Type 0
HasSlot free slots = free ≡ None → slots < 4294967295

-- one more object can be counted, and there is a slot for it
abbrev pub HasPlace : ℕ → Option ℕ → ℕ → Type 0
HasPlace made free slots = (made < 18446744073709551615) × HasSlot free slots

-- so many more values cannot be numbered from this number on
abbrev pub LacksNumbers : ℕ → ℕ → Type 0
LacksNumbers from values = 18446744073709551615 < from + values

module _ {O B T : Type 0} where
  -- no more objects of this kind can be made in the graph
  abbrev pub HasNoPlace : {X : Type 0} → GraphView O B T → Store X → Type 0
  HasNoPlace g s = IsFull g.made g.first_place s.free (length s.cells)

  -- no more regions can be made
  abbrev pub NoMoreRegions : GraphView O B T → Type 0
  NoMoreRegions g = HasNoPlace g g.regions

  -- no block with so many arguments can be made
  abbrev pub NoMoreBlocks : ℕ → GraphView O B T → Type 0
  NoMoreBlocks arguments g = LacksNumbers g.values arguments ⊎ HasNoPlace g g.blocks

  -- no operation with so many results, operands and successors can be made
  abbrev pub NoMoreOperations : ℕ → ℕ → ℕ → GraphView O B T → Type 0
  NoMoreOperations results operands successors g = (2147483648 ≤ operands) ⊎ (2147483648 ≤ successors) ⊎ LacksNumbers g.values results ⊎ HasNoPlace g g.operations
