-- The numbers of values: each is less than the graph's counter, and no two values have the same.
use Rattle.std.specs.Prelude.{◌≡◌, ◌<◌, Some}
use Rattle.irtext_graph.specs.declared.object.Value.{Value}
use Rattle.irtext_graph.specs.Content.{Typed}
use Rattle.irtext_graph.specs.Graph.{GraphView}
use Rattle.irtext_graph.specs.Parts.{value_at}

module _ {O B T : Type 0} where
  -- values with the same number are the same value
  abbrev pub NumbersDiffer : GraphView O B T → Type 0
  NumbersDiffer g = (v w : Value) (t u : Typed T) → value_at g v ≡ Some t → value_at g w ≡ Some u → t.number ≡ u.number → v ≡ w

  -- every value's number is less than the counter, and no two values have the same
  pub record AreNumbered (g : GraphView O B T) : Type 0 where
    pub below : (v : Value) (t : Typed T) → value_at g v ≡ Some t → t.number < g.values
    pub differ : NumbersDiffer g
