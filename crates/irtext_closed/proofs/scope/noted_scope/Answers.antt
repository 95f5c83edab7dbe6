use Rattle.std.proofs.Common.{◌≡◌, ◌∙◌, ◌-◌, slice_get, Some, sym, ap, subst}
use Rattle.irtext_graph.specs.declared.object.Object.TheVariants.{TheBlock}
use Rattle.irtext_closed.specs.Closed.{isolated_data}
use Rattle.irtext_closed.specs.Closing.{IsScope}
use Rattle.irtext_closed.proofs.Noted.{got, two_hold}
use Rattle.irtext_graph.proofs.Same.{ptr_tells}
use Rattle.irtext_closed.proofs.scope.noted_scope.Goals as goal

pub returns-in-Some-Some : goal.returns-in-Some-Some
returns-in-Some-Some g c =
    let now = c.args.ctx.now in
    let found = c.in-Some-Some.found in
    let at : slice_get c.args.scopes.now.noted.items (c.place.result - 1) ≡ Some (Some found) =
    let found_at = c.in-Some-Some.ensures.lookup.3 in
    subst (λ xs. slice_get xs (c.place.result - 1) ≡ Some (Some found)) c.deref.ensures.value
    (got c.deref.result.now (c.place.result - 1) (Some found) found_at.0 (λ d. sym c.in-Some-Some.field-0-is ∙ found_at.1 d)) in
    let same : found.block ≡ c.in-TheBlock.block = ptr_tells.sound found.block c.in-TheBlock.block (two_hold _ _ (sym c.eq.ensures ∙ c.if-eq.true)) in
    subst (λ o. IsScope (isolated_data now.dialects) now.graph o found.scope) (ap TheBlock same ∙ sym c.in-TheBlock.is) (c.requires (c.place.result - 1) found at)
