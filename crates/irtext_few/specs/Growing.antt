-- A list of which one element is stored in place.
use Rattle.std.specs.Prelude.{◌<◌, List, [], ◌∷◌}
use Rattle.std.specs.Vec.{vec_len, vec_capacity}
use Rattle.irtext_few.specs.declared.growing.Growing.{Growing}
use Rattle.irtext_few.specs.declared.growing.Growing.TheVariants.{Nothing, One, Many}

module _ {X : Type 0} where
  -- the elements in order
  abbrev pub listed : Growing X → List X
  listed (Nothing _) = []
  listed (One _ x) = x ∷ []
  listed (Many more) = more.value.items

  -- there is room for one more element
  abbrev pub HasPlace : Growing X → Type 0
  HasPlace (Nothing _) = Unit {0}
  HasPlace (One _ x) = ⊥
  HasPlace (Many more) = vec_len more.value < vec_capacity more.value
