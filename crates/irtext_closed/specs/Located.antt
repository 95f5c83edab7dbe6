-- For callers: when a context keeps the files of all locations in a root.
use Rattle.std.specs.Prelude.{◌≡◌, true, length, IsSome, IfSome}
use Rattle.irtext_base.specs.Locations.{location_view}
use Rattle.irtext_base.specs.Paths.{are_known}
use Rattle.irtext_base.specs.declared.location.Location.{Location}
use Rattle.irtext_context.specs.Context.{ContextView, operation, block}
use Rattle.irtext_graph.specs.Graph.{IsInside}
use Rattle.irtext_graph.specs.declared.arena.Ptr.{Ptr}
use Rattle.irtext_graph.specs.declared.object.Object.{Object}
use Rattle.irtext_graph.specs.declared.object.Object.TheVariants.{TheOperation, TheBlock, TheRegion}
use Rattle.irtext_graph.specs.declared.object.Operation.{Operation}

module _ {T A : Type 0} (ctx : ContextView T A) where
  -- the files of a location are kept
  abbrev pub IsLocatedIn : Location A → Type 0
  IsLocatedIn l = are_known (length ctx.paths) (location_view l) ≡ true

  -- the files of an object's location, if it has one, are kept
  abbrev pub IsLocatedAt : Object → Type 0
  IsLocatedAt (TheOperation p) = IfSome (operation ctx p) (λ view. IsLocatedIn view.loc)
  IsLocatedAt (TheBlock b) = IfSome (block ctx b) (λ view. IsLocatedIn view.loc)
  IsLocatedAt (TheRegion r) = Unit {0}

  -- the operation is there, and the files of all locations in it are kept
  pub record IsLocatedRoot (p : Ptr Operation) : Type 0 where
    pub live : IsSome (operation ctx p)
    pub located : (q : Object) → IsInside ctx.graph (TheOperation p) q → IsLocatedAt q
