use Rattle.std.proofs.Common.{◌≡◌, ◌∷◌, ◌∙◌, sym, ap, subst, Some}
use Rattle.irtext_graph.specs.Graph.{IsLive, IsInside}
use Rattle.irtext_graph.specs.Throughout.{all_from}
use Rattle.irtext_walks.proofs.Picked.{at_live, own_first}
use Rattle.irtext_walks.proofs.steps.next_picked.Goals as goal

pub next_inside-next-requires-clause-alive : goal.next_inside-next-requires-clause-alive
next_inside-next-requires-clause-alive g c = subst (IsLive c.args.graph.now) (sym c.object.ensures) c.requires.alive

pub next_inside-next-requires-clause-within : goal.next_inside-next-requires-clause-within
next_inside-next-requires-clause-within g c = subst (IsInside c.args.graph.now c.args.root) (sym c.object.ensures) c.requires.within

pub pick_from-requires : goal.pick_from-requires
pick_from-requires g c = at_live c.args.graph.now c.args.root c.next_inside-next.result c.next_inside-next.ensures.inside c.next_inside-next.ensures.there

pub returns-clause-next : goal.returns-clause-next
returns-clause-next g c =
    let graph = c.args.graph.now in
    let root = c.args.root in
    let at = c.args.at in
    let left = all_from graph root c.next_inside-next.result in
    let next : all_from graph root (Some (g.K.Kind.object at)) ≡ g.K.Kind.object at ∷ left =
    subst (λ q. all_from graph root (Some q) ≡ q ∷ left) c.object.ensures c.next_inside-next.ensures.next in
    ap g.K.Picked.among next ∙ own_first g.met.K.Picked.picks at left ∙ ap (λ ys. at ∷ ys) c.pick_from.ensures.picked
