-- The locations that are left to search for sources: a stack, whose top is the last element of the list.
use Rattle.std.specs.Prelude.{ℕ, ◌+◌, List, [], ◌∷◌, map}
use Rattle.irtext_base.specs.declared.location.Source.{Source}
use Rattle.irtext_base.specs.declared.location.sources.Waits.{Waits}
use Rattle.irtext_base.specs.declared.location.sources.Waits.TheVariants.{One, Row}
use Rattle.irtext_base.specs.Locations.{location_view, in_row, all_noted, row_noted}
use Rattle.irtext_base.specs.Weights.{weight_of, weight_all}

-- the sources found before, with those of one element of the stack added
abbrev pub wait_noted : {A : Type 0} → List Source → Waits A → List Source
wait_noted found (One location) = all_noted found (location_view location.now)
wait_noted found (Row locations) = row_noted found (in_row (map location_view locations.now))

-- the same for the whole stack, its top first
abbrev pub left_noted : {A : Type 0} → List Source → List (Waits A) → List Source
left_noted found [] = found
left_noted found (w ∷ waits) = wait_noted (left_noted found waits) w

-- a measure of one element of the stack
abbrev pub wait_weight : {A : Type 0} → Waits A → ℕ
wait_weight (One location) = 1 + weight_of location.now
wait_weight (Row locations) = 1 + weight_all locations.now

-- the measure of the whole stack
abbrev pub left_weight : {A : Type 0} → List (Waits A) → ℕ
left_weight [] = 0
left_weight (w ∷ waits) = left_weight waits + wait_weight w
