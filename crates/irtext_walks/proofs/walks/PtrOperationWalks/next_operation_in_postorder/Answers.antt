use Rattle.std.proofs.Common.{◌≡◌, ◌∷◌, subst, Some}
use Rattle.irtext_walks.specs.Walks.{post_operations_from}
use Rattle.irtext_walks.proofs.walks.PtrOperationWalks.next_operation_in_postorder.Goals as goal

pub returns-clause-next : goal.returns-clause-next
returns-clause-next g c =
    let r = c.next_picked_post.result in
    subst (λ v. post_operations_from v (g.K.Kind.object c.args.self) (Some c.args.at) ≡ c.args.at ∷ post_operations_from v
    (g.K.Kind.object c.args.self) r) c.graph.ensures
    (subst (λ o. post_operations_from c.graph.result.now o
    (Some c.args.at) ≡ c.args.at ∷ post_operations_from c.graph.result.now o r) c.object.ensures c.next_picked_post.ensures.next)
