-- The elements of a short list.
use Rattle.std.specs.Prelude.{ℕ, zero, suc, List, [], ◌∷◌}
use Rattle.std.specs.Vec.{with_item}
use Rattle.irtext_few.specs.declared.Items.{Items}
use Rattle.irtext_few.specs.declared.Items.TheVariants.{Nothing, One, Two, Many}

module _ {X : Type 0} where
  -- the elements in order
  abbrev pub items_of : Items X → List X
  items_of Nothing = []
  items_of (One x) = x ∷ []
  items_of (Two x y) = x ∷ y ∷ []
  items_of (Many xs) = xs.items

  -- how many elements are stored in place, or 3 for those in a vector
  abbrev pub form : Items X → ℕ
  form Nothing = 0
  form (One x) = 1
  form (Two x y) = 2
  form (Many xs) = 3

  -- the two elements with the first replaced if the index is 0, and otherwise the second
  abbrev pub with_one_of : X → X → ℕ → X → Items X
  with_one_of x y zero w = Two w y
  with_one_of x y (suc i) w = Two x w

  -- the list with the element at an index replaced
  abbrev pub with_item_at : Items X → ℕ → X → Items X
  with_item_at Nothing i w = Nothing
  with_item_at (One x) i w = One w
  with_item_at (Two x y) i w = with_one_of x y i w
  with_item_at (Many xs) i w = Many (with_item xs i w)
