use Rattle.std.proofs.Common.{◌≡◌, ◌++◌, subst, Some}
use Rattle.irtext_graph.specs.declared.object.Object.TheVariants.{TheBlock}
use Rattle.irtext_walks.specs.Walks.{blocks_from, blocks_inside}
use Rattle.irtext_walks.proofs.walks.PtrBlockWalks.block_after_nested.Goals as goal

pub returns-clause-next : goal.returns-clause-next
returns-clause-next g c =
    let r = c.picked_after_nested.result in
    subst (λ v. blocks_from v (g.K.Kind.object c.args.self) (Some c.args.at) ≡ blocks_inside v (TheBlock c.args.at) ++ blocks_from v
    (g.K.Kind.object c.args.self) r) c.graph.ensures
    (subst (λ o. blocks_from c.graph.result.now o (Some c.args.at) ≡ blocks_inside c.graph.result.now
    (TheBlock c.args.at) ++ blocks_from c.graph.result.now o r) c.object.ensures c.picked_after_nested.ensures.next)
