-- The postorder of an object and everything nested in it: the children of an object, and then the object.
use Rattle.std.specs.Prelude.{◌++◌, ◌∷◌, ℕ, zero, suc, Bool, cond, List, [], Option, Some, None}
use Rattle.irtext_graph.specs.declared.object.Object.{Object}
use Rattle.irtext_graph.specs.Graph.{GraphView, parent, children}
use Rattle.irtext_graph.specs.Objects.{eq_object}
use Rattle.irtext_graph.specs.Preorder.{flat, past}
use Rattle.irtext_graph.specs.Throughout.{places}
use Rattle.irtext_walks.specs.Kinds.{put_first}

module _ {O : Type 0} where
  -- everything nested in an object, n levels deep, and then the object
  abbrev pub postorder : (O → List O) → ℕ → O → List O
  postorder kids zero x = []
  postorder kids (suc n) x = flat (postorder kids n) (kids x) ++ x ∷ []

  -- the later siblings of x, each after everything nested in it
  abbrev pub later : (O → O → Bool) → (O → List O) → ℕ → O → Option O → List O
  later eq kids depth x None = []
  later eq kids depth x (Some k) = flat (postorder kids depth) (past eq x (kids k))

  -- what comes in o after an object, n levels up: its later siblings, its parent, the later siblings of that one, and so on
  abbrev pub upward : (O → O → Bool) → (O → List O) → (O → Option O) → ℕ → O → ℕ → Option O → List O
  upward eq kids up depth o zero x = []
  upward eq kids up depth o (suc n) None = []
  upward eq kids up depth o (suc n) (Some x) = cond (eq x o) [] (later eq kids depth x (up x) ++ put_first (up x) (upward eq kids up depth o n (up x)))

module _ {O B T : Type 0} where
  -- the objects in o, each after everything nested in it
  abbrev pub postorder_of : GraphView O B T → Object → List Object
  postorder_of g o = postorder (children g) (suc (places g)) o

  -- what comes in o after an object, in postorder
  abbrev pub post_after : GraphView O B T → Object → Option Object → List Object
  post_after g o at = upward eq_object (children g) (parent g) (suc (places g)) o (suc (places g)) at

  -- the objects in o from one of them on, in postorder
  abbrev pub post_from : GraphView O B T → Object → Option Object → List Object
  post_from g o at = put_first at (post_after g o at)
