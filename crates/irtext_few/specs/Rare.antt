-- The elements of a list that is mostly empty.
use Rattle.std.specs.Prelude.{ℕ, List, [], ◌∷◌}
use Rattle.std.specs.Box.{with_value}
use Rattle.std.specs.Vec.{with_item}
use Rattle.irtext_few.specs.declared.rare.NoneOrBoxed.{NoneOrBoxed}
use Rattle.irtext_few.specs.declared.rare.NoneOrBoxed.TheVariants.{Nothing, One, Many}

module _ {X : Type 0} where
  -- the elements in order
  abbrev pub items_of : NoneOrBoxed X → List X
  items_of Nothing = []
  items_of (One x) = x.value ∷ []
  items_of (Many xs) = xs.value.items

  -- 0 for no element, 1 for one in a box, and 2 for those in a vector
  abbrev pub form : NoneOrBoxed X → ℕ
  form Nothing = 0
  form (One x) = 1
  form (Many xs) = 2

  -- the list with the element at an index replaced
  abbrev pub with_item_at : NoneOrBoxed X → ℕ → X → NoneOrBoxed X
  with_item_at Nothing i w = Nothing
  with_item_at (One x) i w = One (with_value x w)
  with_item_at (Many xs) i w = Many (with_value xs (with_item xs.value i w))
