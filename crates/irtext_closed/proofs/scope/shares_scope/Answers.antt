use Rattle.std.proofs.Common.{subst}
use Rattle.irtext_graph.specs.Graph.{parent, children}
use Rattle.irtext_graph.specs.Nested.{Nested}
use Rattle.irtext_closed.specs.Closed.{isolated_data}
use Rattle.irtext_closed.proofs.Scopes.{same_scope, scope_same}
use Rattle.irtext_closed.proofs.scope.shares_scope.Goals as goal

pub returns : goal.returns
returns g c =
    let now = c.args.ctx.now in
    let nested : Nested (children now.graph) (parent now.graph) = subst (λ x. Nested (children x) (parent x)) c.graph.ensures c.keeps_nesting.ensures.forest in (
      λ t. same_scope (isolated_data now.dialects) now.graph c.args.a c.args.b c.scope_of.result c.scope_of-2.result c.scope_of.ensures c.scope_of-2.ensures (c.is_same.ensures.0 t),
      λ s. c.is_same.ensures.1 (scope_same (isolated_data now.dialects) now.graph nested c.args.a c.args.b c.scope_of.result c.scope_of-2.result c.scope_of.ensures c.scope_of-2.ensures s),
    )
