use Rattle.std.proofs.Common.{◌∙◌, sym, None, Some, subst, rules}
use Rattle.irtext_graph.specs.Graph.{parent, children}
use Rattle.irtext_graph.specs.Nested.{Nested}
use Rattle.std.specs.Prelude.{IfSome}
use Rattle.irtext_closed.specs.Closed.{isolated_data}
use Rattle.irtext_closed.specs.Closing.{IsScope}
use Rattle.irtext_closed.proofs.Depth.{parent_less}
use Rattle.irtext_closed.proofs.Scopes.{parent_is, climbs_on, climbs_out, climbed_scope}
use Rattle.irtext_closed.proofs.scope.scope_of.Goals as goal

pub loop-holder-smaller : goal.loop-holder-smaller
loop-holder-smaller g c =
    let now = c.args.ctx.now.graph in
    let nested : Nested (children now) (parent now) = subst (λ x. Nested (children x) (parent x)) c.graph.ensures c.keeps_nesting.ensures.forest in
    parent_less now nested c.loop-holder.at c.in-Some.holder (parent_is c.graph-in-loop-holder.result.now now c.loop-holder.at c.get_parent.result (Some c.in-Some.holder) c.graph-in-loop-holder.ensures c.get_parent.ensures.parent c.in-Some.is)

pub returns-in-Some-noted_scope : goal.returns-in-Some-noted_scope
returns-in-Some-noted_scope g c =
    let now = c.args.ctx.now in
    let above = climbs_on (isolated_data now.dialects) now.graph c.args.o c.loop-holder.at c.in-Some.holder c.loop-holder.invariant.climbed
    (parent_is c.graph-in-loop-holder.result.now now.graph c.loop-holder.at c.get_parent.result (Some c.in-Some.holder) c.graph-in-loop-holder.ensures c.get_parent.ensures.parent c.in-Some.is)
    (sym c.is_isolated.ensures ∙ c.if-is_isolated.false) in
    climbed_scope (isolated_data now.dialects) now.graph c.args.o c.in-Some.holder c.in-Some-noted_scope.scope above
    (subst (λ x. IfSome x (IsScope (isolated_data now.dialects) now.graph c.in-Some.holder)) c.in-Some-noted_scope.is c.noted_scope.ensures)

pub loop-holder-preserved : goal.loop-holder-preserved
loop-holder-preserved g c =
    let now = c.args.ctx.now in
    record {
      climbed = climbs_on (isolated_data now.dialects) now.graph c.args.o c.loop-holder.at c.in-Some.holder c.loop-holder.invariant.climbed
          (parent_is c.graph-in-loop-holder.result.now now.graph c.loop-holder.at c.get_parent.result (Some c.in-Some.holder) c.graph-in-loop-holder.ensures c.get_parent.ensures.parent c.in-Some.is)
          (sym c.is_isolated.ensures ∙ c.if-is_isolated.false);
      live = search rules;
    }

pub returns : goal.returns
returns g c =
    let now = c.args.ctx.now in
    climbs_out (isolated_data now.dialects) now.graph c.args.o c.loop-holder.at c.loop-holder.invariant.climbed (parent_is c.graph-in-loop-holder.result.now now.graph c.loop-holder.at c.get_parent.result None c.graph-in-loop-holder.ensures c.get_parent.ensures.parent c.in_default.is)
