-- Edits beside another object, and what edits on pointers leave unchanged.
use Rattle.std.specs.Prelude.{◌≡◌, ◌+◌, ℕ, Some, length, slice_get}
use Rattle.irtext_graph.specs.declared.arena.Ptr.{Ptr}
use Rattle.irtext_graph.specs.declared.object.Object.{Object}
use Rattle.irtext_graph.specs.declared.object.Object.TheVariants.{TheOperation}
use Rattle.irtext_graph.specs.declared.object.Operation.{Operation}
use Rattle.irtext_graph.specs.Edits.{without, InsertsAt, Moves}
use Rattle.irtext_graph.specs.Graph.{GraphView, IsInside, IsNew, KeepsOlder, parent, children}

module _ {O B T : Type 0} where
  -- what was made before a mark is unchanged, if neither o nor its parent was made before it
  abbrev pub KeepsBeside : GraphView O B T → GraphView O B T → Object → Type 0
  KeepsBeside old new o = (m : ℕ) → IsNew m old o → ((k : Object) → parent old o ≡ Some k → IsNew m old k) → KeepsOlder m old new

  -- what was made before a mark is unchanged, if no operation that is o or nested in o was made before it
  abbrev pub KeepsRound : GraphView O B T → GraphView O B T → Object → Type 0
  KeepsRound old new o = (m : ℕ) → ((p : Ptr Operation) → IsInside old o (TheOperation p) → IsNew m old (TheOperation p)) → KeepsOlder m old new

  -- what was made before a mark is unchanged, if neither o, nor what is nested in it, nor its parent was made before it
  abbrev pub KeepsOutside : GraphView O B T → GraphView O B T → Object → Type 0
  KeepsOutside old new o = (m : ℕ) → ((q : Object) → IsInside old o q → IsNew m old q)
      → ((k : Object) → parent old o ≡ Some k → IsNew m old k) → KeepsOlder m old new

  -- the parent of the object, if it has one, was not made before the mark
  abbrev pub IsNewAround : ℕ → GraphView O B T → Object → Type 0
  IsNewAround m g o = (k : Object) → parent g o ≡ Some k → IsNew m g k

  -- c became a child of the parent of mark, just before mark
  abbrev pub InsertsBefore : GraphView O B T → GraphView O B T → Object → Object → Type 0
  InsertsBefore old new mark c = (k : Object) (i : ℕ) → parent old mark ≡ Some k → slice_get (children old k) i ≡ Some mark → InsertsAt old new k i c

  -- c became a child of the parent of mark, just after mark
  abbrev pub InsertsAfter : GraphView O B T → GraphView O B T → Object → Object → Type 0
  InsertsAfter old new mark c = (k : Object) (i : ℕ) → parent old mark ≡ Some k → slice_get (children old k) i ≡ Some mark → InsertsAt old new k (i + 1) c

  -- c left its parent, if it had one, and became a child of the parent of mark, just before mark
  abbrev pub MovesBefore : GraphView O B T → GraphView O B T → Object → Object → Type 0
  MovesBefore old new mark c = (k : Object) (i : ℕ) → parent old mark ≡ Some k → slice_get (without c (children old k)) i ≡ Some mark → Moves old new k i c

  -- c left its parent, if it had one, and became a child of the parent of mark, just after mark
  abbrev pub MovesAfter : GraphView O B T → GraphView O B T → Object → Object → Type 0
  MovesAfter old new mark c = (k : Object) (i : ℕ) → parent old mark ≡ Some k → slice_get (without c (children old k)) i ≡ Some mark → Moves old new k (i + 1) c

  -- c left its parent, if it had one, and became the last child of k
  abbrev pub MovesToEnd : GraphView O B T → GraphView O B T → Object → Object → Type 0
  MovesToEnd old new k c = Moves old new k (length (without c (children old k))) c
