-- For callers: contexts that know operations alike. In which order operations were registered does not matter.
use Rattle.std.specs.Prelude.{◌≡◌, List, Some}
use Rattle.irtext_base.specs.declared.base.identifier.OpId.{OpId}
use Rattle.irtext_base.specs.Text.{Text}
use Rattle.irtext_context.specs.Context.{ContextView, OperationView, operation}
use Rattle.irtext_context.specs.Dialects.{Table}
use Rattle.irtext_context.specs.DialectTable.{registered}
use Rattle.irtext_graph.specs.Graph.{IsInside}
use Rattle.irtext_graph.specs.declared.arena.Ptr.{Ptr}
use Rattle.irtext_graph.specs.declared.object.Object.TheVariants.{TheOperation}
use Rattle.irtext_graph.specs.declared.object.Operation.{Operation}

-- both dialects have the same operations, with the same formats and isolation
abbrev pub KnowAlike : List (Text × Table) → List (Text × Table) → Type 0
KnowAlike a b = (id : OpId) → registered a id ≡ registered b id

-- the dialects know each operation in a root of a context as those of the context do
pub record KnowsRoot {T A : Type 0} (ctx : ContextView T A) (dialects : List (Text × Table)) (p : Ptr Operation) : Type 0 where
  pub alike : (q : Ptr Operation) (view : OperationView T A) → IsInside ctx.graph (TheOperation p) (TheOperation q) → operation ctx q ≡ Some view → registered dialects view.id ≡ registered ctx.dialects view.id
