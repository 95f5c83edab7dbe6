use Rattle.std.proofs.Common.{◌≡◌, ◌++◌, ◌∙◌, sym, ap, subst, Some}
use Rattle.irtext_graph.specs.Throughout.{all_from}
use Rattle.irtext_graph.proofs.Nests.{some_eq}
use Rattle.irtext_walks.specs.Walks.{all_in}
use Rattle.irtext_walks.proofs.preorder.PreOrder.skip.Goals as goal

pub returns-clause-next : goal.returns-clause-next
returns-clause-next g c = λ q e.
    let root = c.args.self.now.root in
    let graph = g.C.HasGraph.graph c.args.ctx.now in
    let at = c.in_ok-at.at in
    let result = c.after_nested-self.result in
    let next : all_from graph root (Some at) ≡ all_in graph at ++ all_from graph root result =
    subst (λ v. all_from v root (Some at) ≡ all_in v at ++ all_from v root result) c.graph.ensures c.after_nested-self.ensures.next in
    let same = some_eq (sym c.in_ok-at.was ∙ e) in
    ap (all_from graph root) c.in_ok-at.was ∙ next ∙ ap (λ x. all_in graph x ++ all_from graph root result) same
