-- The preorder of an object and everything nested in it: an object, and then its children.
use Rattle.std.specs.Prelude.{◌+◌, ◌++◌, ◌∷◌, ℕ, zero, suc, Bool, cond, List, [], length, Option, Some, None}
use Rattle.irtext_graph.specs.declared.object.Object.{Object}
use Rattle.irtext_graph.specs.declared.objects.Objects.{Objects}
use Rattle.irtext_graph.specs.Objects.{up, kids, eq_object}

module _ {O : Type 0} where
  -- the lists that f gives for the elements, one after the other
  abbrev pub flat : (O → List O) → List O → List O
  flat f [] = []
  flat f (x ∷ xs) = f x ++ flat f xs

  -- the elements after the first that is x
  abbrev pub past : (O → O → Bool) → O → List O → List O
  past eq x [] = []
  past eq x (y ∷ ys) = cond (eq y x) ys (past eq x ys)

  -- an object and everything nested in it, n levels deep
  abbrev pub subtree : (O → List O) → ℕ → O → List O
  subtree kids zero x = []
  subtree kids (suc n) x = x ∷ flat (subtree kids n) (kids x)

  -- the later siblings of x with everything nested in them
  abbrev pub beside : (O → O → Bool) → (O → List O) → ℕ → O → Option O → List O
  beside eq kids depth x None = []
  beside eq kids depth x (Some k) = flat (subtree kids depth) (past eq x (kids k))

  -- what comes in o after an object and everything nested in it, n levels up
  abbrev pub after_inside : (O → O → Bool) → (O → List O) → (O → Option O) → ℕ → O → ℕ → Option O → List O
  after_inside eq kids up depth o zero x = []
  after_inside eq kids up depth o (suc n) None = []
  after_inside eq kids up depth o (suc n) (Some x) = cond (eq x o) [] (beside eq kids depth x (up x) ++ after_inside eq kids up depth o n (up x))

  -- what comes in o from an object on
  abbrev pub onward : (O → O → Bool) → (O → List O) → (O → Option O) → ℕ → O → Option O → List O
  onward eq kids up depth o None = []
  onward eq kids up depth o (Some x) = subtree kids depth x ++ after_inside eq kids up depth o depth (Some x)

module _ {O B T : Type 0} where
  -- the number of slots of all arenas
  abbrev pub slots : Objects O B T → ℕ
  slots x = length x.operations.slots.items + length x.blocks.slots.items + length x.regions.slots.items

  -- the objects in o from one of them on
  abbrev pub left : Objects O B T → Object → Option Object → List Object
  left x o at = onward eq_object (kids x) (up x) (suc (slots x)) o at
