-- Between functions: the isolated scopes of blocks that were found.
use Rattle.std.specs.Prelude.{◌≡◌, ℕ, Some, slice_get}
use Rattle.irtext_context.specs.Context.{ContextView}
use Rattle.irtext_graph.specs.declared.object.Object.TheVariants.{TheBlock}
use Rattle.irtext_closed.specs.Closed.{isolated_data}
use Rattle.irtext_closed.specs.Closing.{IsScope}
use Rattle.irtext_closed.specs.declared.scope.Noted.{Noted}
use Rattle.irtext_closed.specs.declared.scope.Scopes.{Scopes}

-- what was noted of each block is its scope
abbrev pub AreScopes : {T A : Type 0} → ContextView T A → Scopes → Type 0
AreScopes ctx scopes = (i : ℕ) (n : Noted) → slice_get scopes.noted.items i ≡ Some (Some n) → IsScope (isolated_data ctx.dialects) ctx.graph (TheBlock n.block) n.scope
