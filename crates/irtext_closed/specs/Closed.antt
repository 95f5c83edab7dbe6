-- For callers: when a root of a context is closed, said of its objects.
use Rattle.std.specs.Prelude.{◌≡◌, Bool, false, List, [], Option, Some, None, IsSome, IfSome}
use Rattle.std.specs.Map.{lookup}
use Rattle.std.specs.Str.{bytes_eq}
use Rattle.irtext_base.specs.Format.{block_label_key}
use Rattle.irtext_base.specs.Text.{Text}
use Rattle.irtext_context.specs.Context.{ContextView, operation, block}
use Rattle.irtext_context.specs.Dialects.{Table}
use Rattle.irtext_context.specs.DialectTable.{registered}
use Rattle.irtext_context.specs.declared.base.operation.OperationData.{OperationData}
use Rattle.irtext_graph.specs.declared.arena.Ptr.{Ptr}
use Rattle.irtext_graph.specs.declared.object.Defined.TheVariants.{OfValue}
use Rattle.irtext_graph.specs.declared.object.Object.{Object}
use Rattle.irtext_graph.specs.declared.object.Object.TheVariants.{TheOperation, TheBlock, TheRegion}
use Rattle.irtext_graph.specs.declared.object.Operation.{Operation}
use Rattle.irtext_graph.specs.declared.object.Site.{Site}
use Rattle.irtext_graph.specs.declared.object.Value.{Value}
use Rattle.irtext_graph.specs.Content.{Typed}
use Rattle.irtext_graph.specs.Erasing.{owner}
use Rattle.irtext_graph.specs.Graph.{IsInside}
use Rattle.irtext_graph.specs.Parts.{results, value_at}
use Rattle.irtext_closed.specs.Closing.{IsReached, IsSelfContained}

-- whether an operation with these data is isolated from above, by the dialects; a placeholder is not
abbrev pub isolated_data : {A : Type 0} → List (Text × Table) → Option (OperationData A) → Bool
isolated_data dialects None = false
isolated_data dialects (Some held) = elim (registered dialects held.id) [ Some known ↦ known.isolated | None ↦ false ]

module _ {T A : Type 0} (ctx : ContextView T A) where
  -- the operand or the successor at a site, if there is one, is a value of the same isolated scope, or a block of the same region
  abbrev pub IsUseReached : Site → Type 0
  IsUseReached u = IsReached (isolated_data ctx.dialects) ctx.graph u

  -- the type of the value, if there is one, is known
  abbrev pub IsTyped : Value → Type 0
  IsTyped v = (t : Typed (Option T)) → value_at ctx.graph v ≡ Some t → IsSome t.of_type

  -- an operation is no placeholder, and the attributes of a block have no label
  abbrev pub IsPlain : Object → Type 0
  IsPlain (TheOperation p) = IsSome (operation ctx p)
  IsPlain (TheBlock b) = IfSome (block ctx b) (λ view. lookup (bytes_eq block_label_key) view.attributes ≡ None)
  IsPlain (TheRegion r) = Unit {0}

  -- A closed root, said of its objects: it is in no block, has no results, operands and successors, and is isolated if it has a region;
  -- each operand in it is a value of the same isolated scope, and each successor a block of the same region; no operation in it is a
  -- placeholder, the attributes of no block have a label, and the types of all values are known.
  pub record IsClosedRoot (p : Ptr Operation) : Type 0 where
    pub contained : IsSelfContained (isolated_data ctx.dialects) ctx.graph (TheOperation p)
    pub results : results ctx.graph p ≡ []
    pub plain : (q : Object) → IsInside ctx.graph (TheOperation p) q → IsPlain q
    pub typed : (v : Value) → IsInside ctx.graph (TheOperation p) (owner (OfValue v)) → IsTyped v
