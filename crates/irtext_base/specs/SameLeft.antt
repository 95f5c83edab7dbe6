-- What is left to compare of two locations, and a measure of it.
use Rattle.std.specs.Prelude.{ℕ, suc, Bool, List, Option, map}
use Rattle.irtext_base.specs.declared.base.attributes.AttrObj.{AttrObj}
use Rattle.irtext_base.specs.declared.location.Location.{Location}
use Rattle.irtext_base.specs.declared.location.same.Left.{Left}
use Rattle.irtext_base.specs.declared.location.same.Left.TheVariants.{Known, Last}
use Rattle.irtext_base.specs.Locations.{LocationView, fused, location_view, attr_view_in, in_row}
use Rattle.irtext_base.specs.SameLocations.{same_view}
use Rattle.irtext_base.specs.Weights.{weight_of}

-- whether what is left to compare is equal
abbrev pub left_same : {A : Type 0} → (A → A → Bool) → Left A → Bool
left_same E (Known same) = same
left_same E (Last l k) = same_view E (location_view l.now) (location_view k.now)

-- the measure of what is left to compare
abbrev pub left_weight : {A : Type 0} → Left A → ℕ
left_weight (Known same) = 0
left_weight (Last l k) = suc (weight_of l.now)

-- several locations as one
abbrev pub several : {A : Type 0} → Option (AttrObj A) → List (Location A) → LocationView A
several metadata locations = fused (attr_view_in metadata) (in_row (map location_view locations))
