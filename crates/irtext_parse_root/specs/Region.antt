-- For callers: the position at which an operation that is not isolated from above is reported, since none of its regions can be parsed
-- alone.
use Rattle.std.specs.Prelude.{cond, Option, Some, None, ⊤}
use Rattle.irtext_base.specs.Faults.{id_of}
use Rattle.irtext_base.specs.declared.location.Location.{Location}
use Rattle.irtext_stream.specs.declared.position.SourcePosition.{SourcePosition}
use Rattle.irtext_context.specs.Context.{ContextView, operation}
use Rattle.irtext_graph.specs.declared.arena.Ptr.{Ptr}
use Rattle.irtext_graph.specs.declared.object.Operation.{Operation}
use Rattle.irtext_grammar.specs.Contexts.Formats.{isolated}
use Rattle.irtext_names.specs.Alone.{IsOutermost}

-- the location of an operation that is not isolated from above; `None` for an operation that is
abbrev pub unisolated : {T A : Type 0} → ContextView T A → Ptr Operation → Option (Location A)
unisolated c op = elim (operation c op) [ Some view ↦ cond (isolated c.dialects (id_of view.id)) None (Some view.loc) | None ↦ None ]

-- the position at which such an operation is reported; there is one exactly if there is a location
abbrev pub IsReportedAt : {A : Type 0} → Option (Location A) → Option SourcePosition → Type 0
IsReportedAt None None = ⊤
IsReportedAt (Some loc) (Some pos) = IsOutermost loc pos
IsReportedAt _ _ = ⊥
