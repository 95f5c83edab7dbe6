use Rattle.std.proofs.Common.{◌≡◌, ◌∷◌, ◌∙◌, drop, sym, ap, subst, Some}
use Rattle.irtext_walks.specs.Postorder.{post_from}
use Rattle.irtext_walks.proofs.postorder.PostOrder.next.Goals as goal

pub returns-clause-next : goal.returns-clause-next
returns-clause-next g c =
    let root = c.args.self.now.root in
    let graph = g.C.HasGraph.graph c.args.ctx.now in
    let at = c.in_ok-at.at in
    let result = c.next_in_postorder-self.result in
    let next : post_from graph root (Some at) ≡ at ∷ post_from graph root result =
    subst (λ v. post_from v root (Some at) ≡ at ∷ post_from v root result) c.graph.ensures c.next_in_postorder-self.ensures.next in
    sym (ap (λ a. drop 1 (post_from graph root a)) c.in_ok-at.was ∙ ap (drop 1) next)
