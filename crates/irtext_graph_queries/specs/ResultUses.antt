-- The uses of an operation: the operands that are results of it.
use Rattle.std.specs.Prelude.{ℕ}
use Rattle.irtext_graph.specs.declared.arena.Ptr.{Ptr}
use Rattle.irtext_graph.specs.declared.object.Defined.TheVariants.{OfValue}
use Rattle.irtext_graph.specs.declared.object.Operation.{Operation}
use Rattle.irtext_graph.specs.declared.object.Site.{Site}
use Rattle.irtext_graph.specs.declared.object.Value.TheVariants.{Result}
use Rattle.irtext_graph.specs.Graph.{GraphView}
use Rattle.irtext_graph.specs.Used.{IsUse}

module _ {O B T : Type 0} where
  -- the use is one of a result of the operation
  abbrev pub IsUseOf : GraphView O B T → Ptr Operation → Site → Type 0
  IsUseOf g p u = (i : ℕ) × IsUse g (OfValue (Result p i)) u
