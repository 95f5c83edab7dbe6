use Rattle.std.proofs.Common.{◌≡◌, ◌∷◌, subst, Some}
use Rattle.irtext_walks.specs.Walks.{blocks_from}
use Rattle.irtext_walks.proofs.walks.PtrBlockWalks.next_block_inside.Goals as goal

pub returns-clause-next : goal.returns-clause-next
returns-clause-next g c =
    let r = c.next_picked.result in
    subst (λ v. blocks_from v (g.K.Kind.object c.args.self) (Some c.args.at) ≡ c.args.at ∷ blocks_from v (g.K.Kind.object c.args.self) r) c.graph.ensures
    (subst (λ o. blocks_from c.graph.result.now o
    (Some c.args.at) ≡ c.args.at ∷ blocks_from c.graph.result.now o r) c.object.ensures c.next_picked.ensures.next)
