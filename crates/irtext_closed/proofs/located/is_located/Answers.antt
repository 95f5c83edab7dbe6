use Rattle.std.proofs.Common.{◌≡◌, ◌∙◌, ◌∷◌, inl, refl, sym, ap, subst, Some}
use Rattle.std.specs.Prelude.{IfSome}
use Rattle.irtext_graph.specs.Chained.{Among}
use Rattle.irtext_graph.specs.Graph.{IsInside, IsLive}
use Rattle.irtext_graph.specs.Throughout.{all_from}
use Rattle.irtext_graph.specs.declared.object.Object.{Object}
use Rattle.irtext_graph.specs.declared.object.Object.TheVariants.{TheOperation}
use Rattle.irtext_closed.proofs.Walk.{fewer, one_more}
use Rattle.irtext_closed.specs.Located.{IsLocatedAt}
use Rattle.irtext_closed.proofs.located.is_located.Goals as goal

pub loop-at-init : goal.loop-at-init
loop-at-init g c = record {
  so_far = λ q w. inl (subst (λ x. (o q : Object) → IsInside x o q → Among q (all_from x o (Some o))) c.graph.ensures c.keeps_nesting.ensures.all (TheOperation c.args.root) q w);
  inside = (0, refl);
  live = c.contains_operation.ensures.graph (c.contains_operation.ensures.alive.1 (c.contains_operation.ensures.alive.0 c.if-not-contains_operation.false));
}

pub next_inside-at-requires-clause-within : goal.next_inside-at-requires-clause-within
next_inside-at-requires-clause-within g c =
    subst (λ x. IsInside x (TheOperation c.args.root) c.in-Some.object) (sym c.graph-in-Some.ensures) (subst (λ o. IfSome o (IsInside c.args.ctx.now.graph (TheOperation c.args.root))) c.in-Some.is c.loop-at.invariant.inside)

pub loop-at-smaller : goal.loop-at-smaller
loop-at-smaller g c =
    let now = c.args.ctx.now.graph in
    let top = TheOperation c.args.root in
    fewer (all_from now top c.loop-at.at) (all_from now top c.next_inside-at.result) c.in-Some.object
    (ap (all_from now top) c.in-Some.is ∙ subst (λ x. all_from x top (Some c.in-Some.object) ≡ c.in-Some.object ∷ all_from x top c.next_inside-at.result) c.graph-in-Some.ensures c.next_inside-at.ensures.next)

pub loop-at-preserved : goal.loop-at-preserved
loop-at-preserved g c =
    let now = c.args.ctx.now in
    let top = TheOperation c.args.root in
    let n = c.next_inside-at.ensures in
    let on = subst (λ x. all_from x top (Some c.in-Some.object) ≡ c.in-Some.object ∷ all_from x top c.next_inside-at.result) c.graph-in-Some.ensures n.next in
    record {
      so_far = λ q w. one_more now.graph top (IsLocatedAt now) c.loop-at.at c.next_inside-at.result c.in-Some.object c.in-Some.is on (c.is_located_at.ensures.0 c.if-not-is_located_at.false) q (c.loop-at.invariant.so_far q w);
      inside = subst (λ x. IfSome c.next_inside-at.result (IsInside x top)) c.graph-in-Some.ensures n.inside;
      live = subst (λ x. IfSome c.next_inside-at.result (IsLive x)) c.graph-in-Some.ensures n.there;
    }
