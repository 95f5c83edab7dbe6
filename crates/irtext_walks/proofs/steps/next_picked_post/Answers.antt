use Rattle.std.proofs.Common.{◌≡◌, ◌∷◌, ◌∙◌, sym, ap, subst, Some}
use Rattle.irtext_walks.specs.Postorder.{post_from}
use Rattle.irtext_walks.specs.Walks.{IsLiveInside}
use Rattle.irtext_walks.proofs.Picked.{own_first}
use Rattle.irtext_walks.proofs.steps.next_picked_post.Goals as goal

pub next_in_postorder-next-requires : goal.next_in_postorder-next-requires
next_in_postorder-next-requires g c = subst (IsLiveInside c.args.graph.now c.args.root) (sym c.object.ensures) c.requires

pub returns-clause-next : goal.returns-clause-next
returns-clause-next g c =
    let graph = c.args.graph.now in
    let root = c.args.root in
    let at = c.args.at in
    let left = post_from graph root c.next_in_postorder-next.result in
    let next : post_from graph root (Some (g.K.Kind.object at)) ≡ g.K.Kind.object at ∷ left =
    subst (λ q. post_from graph root (Some q) ≡ q ∷ left) c.object.ensures c.next_in_postorder-next.ensures.next in
    ap g.K.Picked.among next ∙ own_first g.met.K.Picked.picks at left ∙ ap (λ ys. at ∷ ys) c.pick_post_from.ensures.picked
