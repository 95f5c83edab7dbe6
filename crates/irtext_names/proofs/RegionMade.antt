-- A region that is created without a parent.
use Rattle.std.proofs.Common.{◌≡◌, None, Result, Ok, Err, IfOk}
use Rattle.irtext_context.specs.Context.{ContextView, with_graph}
use Rattle.irtext_graph.specs.declared.arena.Ptr.{Ptr}
use Rattle.irtext_graph.specs.declared.object.Region.{Region}
use Rattle.irtext_graph.specs.Graph.{MakesRegion}
use Rattle.irtext_names.specs.Placing.{CreatesIn}

-- a region was made without a parent, if it was made
pub made_alone : {T A E : Type 0} (old new : ContextView T A) (result : Result (Ptr Region) E) → IfOk result (MakesRegion old.graph new.graph) → new ≡ with_graph old new.graph → IfOk result (CreatesIn None old new)
made_alone old new (Ok r) makes with_it = (makes, with_it)
made_alone old new (Err e) makes with_it = tt
