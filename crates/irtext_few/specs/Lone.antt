-- The elements of a list that seldom has more than one.
use Rattle.std.specs.Prelude.{ℕ, List, [], ◌∷◌}
use Rattle.std.specs.Vec.{with_item}
use Rattle.irtext_few.specs.declared.lone.OneOrMany.{OneOrMany}
use Rattle.irtext_few.specs.declared.lone.OneOrMany.TheVariants.{Nothing, One, Many}

module _ {X : Type 0} where
  -- the elements in order
  abbrev pub items_of : OneOrMany X → List X
  items_of Nothing = []
  items_of (One x) = x ∷ []
  items_of (Many xs) = xs.items

  -- how many elements are stored in place, or 2 for those in a vector
  abbrev pub form : OneOrMany X → ℕ
  form Nothing = 0
  form (One x) = 1
  form (Many xs) = 2

  -- the list with the element at an index replaced
  abbrev pub with_item_at : OneOrMany X → ℕ → X → OneOrMany X
  with_item_at Nothing i w = Nothing
  with_item_at (One x) i w = One w
  with_item_at (Many xs) i w = Many (with_item xs i w)
