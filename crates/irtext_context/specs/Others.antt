-- What a contract sees of the entries of a dictionary beside the given names.
use Rattle.std.specs.Prelude.{◌≤◌, List, [], length}
use Rattle.irtext_base.specs.Text.{Text}
use Rattle.irtext_base.specs.declared.base.attributes.AttrObj.{AttrObj}
use Rattle.irtext_context.specs.declared.base.attributes.others.Stored.{Stored}
use Rattle.irtext_context.specs.declared.base.attributes.others.Stored.TheVariants.{Nothing, Few, Many}

-- the entries, whether they are in a vector or in a map
abbrev pub entries_of : {A : Type 0} → Stored A → List (Text × AttrObj A)
entries_of (Nothing seed) = []
entries_of (Few few) = few.value.entries.items
entries_of (Many map) = map.value.entries

-- a vector has at most 8 entries
abbrev pub IsFew : {A : Type 0} → Stored A → Type 0
IsFew (Nothing seed) = Unit {0}
IsFew (Few few) = length few.value.entries.items ≤ 8
IsFew (Many map) = Unit {0}
