use Rattle.std.proofs.Common.{◌≡◌, ◌++◌, subst, Some}
use Rattle.irtext_graph.specs.declared.object.Object.TheVariants.{TheOperation}
use Rattle.irtext_walks.specs.Walks.{operations_from, operations_inside}
use Rattle.irtext_walks.proofs.walks.PtrOperationWalks.after_nested.Goals as goal

pub returns-clause-next : goal.returns-clause-next
returns-clause-next g c =
    let r = c.picked_after_nested.result in
    subst (λ v. operations_from v (g.K.Kind.object c.args.self) (Some c.args.at) ≡ operations_inside v (TheOperation c.args.at) ++ operations_from v
    (g.K.Kind.object c.args.self) r) c.graph.ensures
    (subst (λ o. operations_from c.graph.result.now o (Some c.args.at) ≡ operations_inside c.graph.result.now
    (TheOperation c.args.at) ++ operations_from c.graph.result.now o r) c.object.ensures c.picked_after_nested.ensures.next)
