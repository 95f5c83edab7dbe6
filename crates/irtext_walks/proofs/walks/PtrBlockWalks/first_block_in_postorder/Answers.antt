use Rattle.std.proofs.Common.{◌≡◌, subst}
use Rattle.irtext_graph.specs.Chained.{Lists}
use Rattle.irtext_graph.specs.Graph.{IsInside}
use Rattle.irtext_walks.specs.Walks.{post_blocks_from, post_blocks_inside}
use Rattle.irtext_walks.specs.Postorder.{postorder_of}
use Rattle.irtext_walks.proofs.Listed.{blocks_listed}
use Rattle.irtext_walks.proofs.walks.PtrBlockWalks.first_block_in_postorder.Goals as goal

pub returns-clause-first : goal.returns-clause-first
returns-clause-first g c =
    let r = c.first_picked_post.result in
    subst (λ v. post_blocks_from v (g.K.Kind.object c.args.self) r ≡ post_blocks_inside v (g.K.Kind.object c.args.self)) c.graph.ensures
    (subst (λ o. post_blocks_from c.graph.result.now o r ≡ post_blocks_inside c.graph.result.now o) c.object.ensures c.first_picked_post.ensures.first)

pub returns-clause-all : goal.returns-clause-all
returns-clause-all g c =
    let graph = g.C.HasGraph.graph c.args.ctx.now in
    let o = g.K.Kind.object c.args.self in
    let here = c.first_picked_post.ensures.objects in
    blocks_listed (IsInside graph o) (postorder_of graph o)
    (subst (λ v. Lists (IsInside v o) (postorder_of v o)) c.graph.ensures
    (subst (λ q. Lists (IsInside c.graph.result.now q) (postorder_of c.graph.result.now q)) c.object.ensures here))
