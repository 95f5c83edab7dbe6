use Rattle.std.proofs.Common.{◌≡◌, ◌∙◌, ◌∷◌, inl, refl, sym, ap, subst, Some}
use Rattle.std.specs.Prelude.{IfSome}
use Rattle.irtext_graph.specs.Chained.{Among}
use Rattle.irtext_graph.specs.Graph.{children, parent, IsInside, IsLive}
use Rattle.irtext_graph.specs.Nested.{Nested}
use Rattle.irtext_graph.specs.Throughout.{all_from}
use Rattle.irtext_graph.specs.declared.object.Object.{Object}
use Rattle.irtext_graph.specs.declared.object.Object.TheVariants.{TheOperation}
use Rattle.irtext_closed.proofs.Reasons.{refused, refused_for, next_reason, root_closed, reason_open}
use Rattle.irtext_closed.proofs.Walk.{fewer, one_more, all_hold}
use Rattle.irtext_closed.specs.First.{IsClosedAt, IsFirstReason}
use Rattle.irtext_closed.proofs.check.check_closed.Goals as goal

pub returns-in_err-check_root-clause-closed : goal.returns-in_err-check_root-clause-closed
returns-in_err-check_root-clause-closed g c =
    let now = c.args.ctx.now in
    let nested = subst (λ x. Nested (children x) (parent x)) c.graph.ensures c.keeps_nesting.ensures.forest in
    refused _ c.from_residual.result c.from_residual.ensures.1 (reason_open now c.args.root nested c.in_err-check_root.field-0.0 (inl c.in_err-check_root.ensures.first))

pub loop-at-init : goal.loop-at-init
loop-at-init g c =
    let now = c.args.ctx.now in
    record {
      so_far = λ q w. inl (subst (λ x. (o q : Object) → IsInside x o q → Among q (all_from x o (Some o))) c.graph.ensures c.keeps_nesting.ensures.all (TheOperation c.args.root) q w);
      inside = (0, refl);
      live = c.in_ok-check_root.ensures.alive;
    }

pub returns-in_err-check_object-clause-closed : goal.returns-in_err-check_object-clause-closed
returns-in_err-check_object-clause-closed g c =
    let now = c.args.ctx.now in
    let nested = subst (λ x. Nested (children x) (parent x)) c.graph.ensures c.keeps_nesting.ensures.forest in
    let reason = c.in_err-check_object.field-0.0 in
    let inside = subst (λ o. IfSome o (IsInside now.graph (TheOperation c.args.root))) c.in-Some.is c.loop-at.invariant.inside in
    refused _ c.from_residual-in_err-check_object.result c.from_residual-in_err-check_object.ensures.1 (reason_open now c.args.root nested reason
    (next_reason now c.args.root c.loop-at.at c.in-Some.object reason c.in-Some.is c.in_ok-check_root.ensures.bare inside c.loop-at.invariant.so_far c.in_err-check_object.ensures.first))

pub returns-in_err-check_object-clause-first : goal.returns-in_err-check_object-clause-first
returns-in_err-check_object-clause-first g c =
    let now = c.args.ctx.now in
    let reason = c.in_err-check_object.field-0.0 in
    let inside = subst (λ o. IfSome o (IsInside now.graph (TheOperation c.args.root))) c.in-Some.is c.loop-at.invariant.inside in
    refused_for (IsFirstReason now c.args.root) reason c.from_residual-in_err-check_object.result c.from_residual-in_err-check_object.ensures.1
    (next_reason now c.args.root c.loop-at.at c.in-Some.object reason c.in-Some.is c.in_ok-check_root.ensures.bare inside c.loop-at.invariant.so_far c.in_err-check_object.ensures.first)

pub next_inside-at-requires-clause-within : goal.next_inside-at-requires-clause-within
next_inside-at-requires-clause-within g c =
    subst (λ x. IsInside x (TheOperation c.args.root) c.in-Some.object) (sym c.graph-in-Some.ensures) (subst (λ o. IfSome o (IsInside c.args.ctx.now.graph (TheOperation c.args.root))) c.in-Some.is c.loop-at.invariant.inside)

pub loop-at-smaller : goal.loop-at-smaller
loop-at-smaller g c =
    let now = c.args.ctx.now.graph in
    let top = TheOperation c.args.root in
    fewer (all_from now top c.loop-at.at) (all_from now top c.next_inside-at.result) c.in-Some.object
    (ap (all_from now top) c.in-Some.is ∙ subst (λ x. all_from x top (Some c.in-Some.object) ≡ c.in-Some.object ∷ all_from x top c.next_inside-at.result) c.graph-in-Some.ensures c.next_inside-at.ensures.next)

pub loop-at-preserved : goal.loop-at-preserved
loop-at-preserved g c =
    let now = c.args.ctx.now in
    let top = TheOperation c.args.root in
    let n = c.next_inside-at.ensures in
    let on = subst (λ x. all_from x top (Some c.in-Some.object) ≡ c.in-Some.object ∷ all_from x top c.next_inside-at.result) c.graph-in-Some.ensures n.next in
    record {
      so_far = λ q w. one_more now.graph top (IsClosedAt now) c.loop-at.at c.next_inside-at.result c.in-Some.object c.in-Some.is on c.in_ok-check_object.ensures.closed q (c.loop-at.invariant.so_far q w);
      inside = subst (λ x. IfSome c.next_inside-at.result (IsInside x top)) c.graph-in-Some.ensures n.inside;
      live = subst (λ x. IfSome c.next_inside-at.result (IsLive x)) c.graph-in-Some.ensures n.there;
    }

pub returns-clause-closed : goal.returns-clause-closed
returns-clause-closed g c =
    let now = c.args.ctx.now in
    let nested = subst (λ x. Nested (children x) (parent x)) c.graph.ensures c.keeps_nesting.ensures.forest in
    ((λ t. root_closed now c.args.root nested c.in_ok-check_root.ensures.bare (λ q w. all_hold now.graph (TheOperation c.args.root) (IsClosedAt now) c.loop-at.at c.in_default.is q (c.loop-at.invariant.so_far q w))), (λ r. refl))
