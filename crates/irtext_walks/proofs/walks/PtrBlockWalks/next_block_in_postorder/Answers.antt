use Rattle.std.proofs.Common.{◌≡◌, ◌∷◌, subst, Some}
use Rattle.irtext_walks.specs.Walks.{post_blocks_from}
use Rattle.irtext_walks.proofs.walks.PtrBlockWalks.next_block_in_postorder.Goals as goal

pub returns-clause-next : goal.returns-clause-next
returns-clause-next g c =
    let r = c.next_picked_post.result in
    subst (λ v. post_blocks_from v (g.K.Kind.object c.args.self) (Some c.args.at) ≡ c.args.at ∷ post_blocks_from v
    (g.K.Kind.object c.args.self) r) c.graph.ensures
    (subst (λ o. post_blocks_from c.graph.result.now o
    (Some c.args.at) ≡ c.args.at ∷ post_blocks_from c.graph.result.now o r) c.object.ensures c.next_picked_post.ensures.next)
