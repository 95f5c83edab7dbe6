use Rattle.std.proofs.Common.{◌≡◌, ◌∙◌, ◌∷◌, ap, subst, Some}
use Rattle.irtext_graph.specs.Throughout.{all_from}
use Rattle.irtext_graph.specs.declared.object.Object.TheVariants.{TheOperation}
use Rattle.irtext_closed.proofs.Walk.{fewer}
use Rattle.irtext_closed.proofs.scope.scopes_in.Goals as goal

pub loop-at-smaller : goal.loop-at-smaller
loop-at-smaller g c =
    let now = c.args.ctx.now.graph in
    let top = TheOperation c.args.root in
    fewer (all_from now top c.loop-at.at) (all_from now top c.next_inside-at.result) c.in-Some.object
    (ap (all_from now top) c.in-Some.is ∙ subst (λ x. all_from x top (Some c.in-Some.object) ≡ c.in-Some.object ∷ all_from x top c.next_inside-at.result) c.graph.ensures c.next_inside-at.ensures.next)
