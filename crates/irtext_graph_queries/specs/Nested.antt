-- The operations among objects of all kinds.
use Rattle.std.specs.Prelude.{List, [], ◌∷◌}
use Rattle.irtext_graph.specs.declared.arena.Ptr.{Ptr}
use Rattle.irtext_graph.specs.declared.object.Object.{Object}
use Rattle.irtext_graph.specs.declared.object.Object.TheVariants.{TheOperation}
use Rattle.irtext_graph.specs.declared.object.Operation.{Operation}

-- the operations among these objects, in order
abbrev pub operations_among : List Object → List (Ptr Operation)
operations_among [] = []
operations_among (TheOperation p ∷ os) = p ∷ operations_among os
operations_among (_ ∷ os) = operations_among os
