use Rattle.std.proofs.Common.{◌≡◌, ◌∙◌, ◌∷◌, inl, refl, sym, ap, subst, true, false, Some}
use Rattle.std.specs.Prelude.{IfSome}
use Rattle.irtext_graph.specs.Chained.{Among}
use Rattle.irtext_graph.specs.Graph.{IsInside, IsLive, parent}
use Rattle.irtext_graph.specs.Throughout.{all_from}
use Rattle.irtext_graph.specs.declared.object.Object.{Object}
use Rattle.irtext_graph.specs.declared.object.Object.TheVariants.{TheOperation}
use Rattle.irtext_alike.specs.First.{IsFirstUnlike}
use Rattle.irtext_alike.proofs.Walk.{fewer, refused, passed, alike_on, all_alike, first_unlike, not_known, none_inside}
use Rattle.irtext_alike.proofs.root.knows_root.Goals as goal

pub returns-then-not-contains-clause-known : goal.returns-then-not-contains-clause-known
returns-then-not-contains-clause-known g c =
    let holders = subst (λ x. (o k : Object) → parent x o ≡ Some k → IsLive x k) c.graph.ensures c.keeps_nesting.ensures.holders in
    let gone = c.if-not-contains.true in
    let says = c.contains.ensures in
    ((λ t. none_inside c.args.ctx.now c.args.other.now.dialects c.args.root holders (λ l. let live = says.1 (subst (λ x. IsLive x (TheOperation c.args.root)) (sym c.graph-2.ensures) l) in absurd (cc))), (λ k. refl))

pub loop-at-init : goal.loop-at-init
loop-at-init g c =
    record {
      so_far = λ q w. inl (subst (λ x. (o q : Object) → IsInside x o q → Among q (all_from x o (Some o))) c.graph.ensures c.keeps_nesting.ensures.all (TheOperation c.args.root) q w);
      inside = (0, refl);
      live = subst (λ x. IsLive x (TheOperation c.args.root)) c.graph-2.ensures (c.contains.ensures.0 c.if-not-contains.false);
    }

pub returns-in_err-check_object-clause-known : goal.returns-in_err-check_object-clause-known
returns-in_err-check_object-clause-known g c =
    let now = c.args.ctx.now in
    let unlike = c.in_err-check_object.field-0.0 in
    let inside = subst (λ o. IfSome o (IsInside now.graph (TheOperation c.args.root))) c.in-Some.is c.loop-at.invariant.inside in
    refused unlike c.from_residual.result c.from_residual.ensures.1 (not_known now c.args.other.now.dialects c.args.root unlike
    (first_unlike now c.args.other.now.dialects c.args.root c.loop-at.at c.in-Some.object unlike c.in-Some.is inside c.loop-at.invariant.so_far c.in_err-check_object.ensures.unlike))

pub returns-in_err-check_object-clause-first : goal.returns-in_err-check_object-clause-first
returns-in_err-check_object-clause-first g c =
    let now = c.args.ctx.now in
    let unlike = c.in_err-check_object.field-0.0 in
    let inside = subst (λ o. IfSome o (IsInside now.graph (TheOperation c.args.root))) c.in-Some.is c.loop-at.invariant.inside in
    passed (IsFirstUnlike now c.args.other.now.dialects c.args.root) unlike c.from_residual.result c.from_residual.ensures.1
    (first_unlike now c.args.other.now.dialects c.args.root c.loop-at.at c.in-Some.object unlike c.in-Some.is inside c.loop-at.invariant.so_far c.in_err-check_object.ensures.unlike)

pub next_inside-at-requires-clause-within : goal.next_inside-at-requires-clause-within
next_inside-at-requires-clause-within g c =
    subst (λ x. IsInside x (TheOperation c.args.root) c.in-Some.object) (sym c.graph-in-Some.ensures) (subst (λ o. IfSome o (IsInside c.args.ctx.now.graph (TheOperation c.args.root))) c.in-Some.is c.loop-at.invariant.inside)

pub loop-at-smaller : goal.loop-at-smaller
loop-at-smaller g c =
    let now = c.args.ctx.now.graph in
    let top = TheOperation c.args.root in
    fewer (all_from now top c.loop-at.at) (all_from now top c.next_inside-at.result) c.in-Some.object
    (ap (all_from now top) c.in-Some.is ∙ subst (λ x. all_from x top (Some c.in-Some.object) ≡ c.in-Some.object ∷ all_from x top c.next_inside-at.result) c.graph-in-Some.ensures c.next_inside-at.ensures.next)

pub loop-at-preserved : goal.loop-at-preserved
loop-at-preserved g c =
    let now = c.args.ctx.now in
    let top = TheOperation c.args.root in
    let n = c.next_inside-at.ensures in
    let on = subst (λ x. all_from x top (Some c.in-Some.object) ≡ c.in-Some.object ∷ all_from x top c.next_inside-at.result) c.graph-in-Some.ensures n.next in
    record {
      so_far = λ q w. alike_on now c.args.other.now.dialects c.args.root c.loop-at.at c.next_inside-at.result c.in-Some.object c.in-Some.is on c.in_ok-check_object.ensures.alike q (c.loop-at.invariant.so_far q w);
      inside = subst (λ x. IfSome c.next_inside-at.result (IsInside x top)) c.graph-in-Some.ensures n.inside;
      live = subst (λ x. IfSome c.next_inside-at.result (IsLive x)) c.graph-in-Some.ensures n.there;
    }

pub returns-clause-known : goal.returns-clause-known
returns-clause-known g c = ((λ t. all_alike c.args.ctx.now c.args.other.now.dialects c.args.root c.loop-at.at c.in_default.is c.loop-at.invariant.so_far), (λ r. refl))
