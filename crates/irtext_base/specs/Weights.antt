-- A measure of locations that decreases with each step of the loop that drops one.
use Rattle.std.specs.Prelude.{ℕ, ◌+◌, List, map}
use Rattle.irtext_base.specs.Locations.{LocationOf, LocationsOf, src_pos, fused, named, call_site, unknown, no_location, location, location_view, in_row}
use Rattle.irtext_base.specs.declared.location.Location.{Location}
use Rattle.irtext_base.specs.declared.location.release.Parts.{Parts}
use Rattle.irtext_base.specs.declared.location.release.Parts.TheVariants.{Leaf, Many, One, Two}

abbrev mutual
  -- the measure of a location that is dropped next
  pub weight : {S A : Type 0} → LocationOf S A → ℕ
  weight (src_pos src pos) = 0
  weight (fused metadata locations) = 1 + row_weight locations
  weight (named name child) = 1 + weight child
  weight (call_site callee caller) = 2 + (weight callee + weight caller)
  weight unknown = 0

  -- the same for a row, with one more for each location of it
  pub row_weight : {S A : Type 0} → LocationsOf S A → ℕ
  row_weight no_location = 0
  row_weight (location l ls) = (1 + weight l) + row_weight ls

abbrev mutual
  -- the measure of a location in the chain of those that are left to drop, with the rest of the chain in its first place
  pub waiting : {S A : Type 0} → LocationOf S A → ℕ
  waiting unknown = 0
  waiting (src_pos src pos) = 0
  waiting (fused metadata locations) = 1 + row_waiting locations
  waiting (named name child) = 1 + weight child
  waiting (call_site callee caller) = 1 + (waiting callee + weight caller)

  -- the same for a row, whose first location is the rest of the chain
  pub row_waiting : {S A : Type 0} → LocationsOf S A → ℕ
  row_waiting no_location = 0
  row_waiting (location l ls) = waiting l + row_weight ls

-- the measure of a location that is dropped next
abbrev pub weight_of : {A : Type 0} → Location A → ℕ
weight_of l = weight (location_view l)

-- the measure of a location in the chain
abbrev pub waiting_of : {A : Type 0} → Location A → ℕ
waiting_of l = waiting (location_view l)

-- the measure of several locations that are dropped next
abbrev pub weight_all : {A : Type 0} → List (Location A) → ℕ
weight_all ls = row_weight (in_row (map location_view ls))

-- the measure of several locations in the chain, the first of which is the rest of the chain
abbrev pub waiting_all : {A : Type 0} → List (Location A) → ℕ
waiting_all ls = row_waiting (in_row (map location_view ls))

-- the measure of all that is left to drop: a location, and the chain after it
abbrev pub left_of : {A : Type 0} → Location A → Location A → ℕ
left_of next rest = weight_of next + waiting_of rest

-- the measure of a location that was taken apart
abbrev pub parts_weight : {A : Type 0} → Parts A → ℕ
parts_weight Leaf = 0
parts_weight (Many metadata locations) = 1 + weight_all locations.value.items
parts_weight (One child) = 1 + weight_of child.value
parts_weight (Two callee caller) = 2 + (weight_of callee.value + weight_of caller.value)

-- the measure of a location in the chain that was taken apart
abbrev pub parts_waiting : {A : Type 0} → Parts A → ℕ
parts_waiting Leaf = 0
parts_waiting (Many metadata locations) = 1 + waiting_all locations.value.items
parts_waiting (One child) = 1 + weight_of child.value
parts_waiting (Two callee caller) = 1 + (waiting_of callee.value + weight_of caller.value)
