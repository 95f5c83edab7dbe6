use Rattle.std.proofs.Common.{◌∙◌, ap, subst}
use Rattle.irtext_graph.specs.Chained.{Lists}
use Rattle.irtext_graph.specs.Graph.{IsInside}
use Rattle.irtext_walks.specs.Walks.{post_operations_inside}
use Rattle.irtext_walks.specs.Postorder.{postorder_of}
use Rattle.irtext_walks.proofs.Listed.{operations_listed}
use Rattle.irtext_walks.proofs.iter.PtrWalk.walk_postorder.Goals as goal

pub returns-clause-left : goal.returns-clause-left
returns-clause-left g c =
    c.first_picked_post.ensures.first ∙ ap (λ v. post_operations_inside v c.object-root.result) c.graph-graph.ensures
    ∙ ap (post_operations_inside (g.C.HasGraph.graph c.args.ctx.now)) c.object-root.ensures

pub returns-clause-all : goal.returns-clause-all
returns-clause-all g c =
    let graph = g.C.HasGraph.graph c.args.ctx.now in
    let o = g.K.Kind.object c.args.self in
    let here = c.first_picked_post.ensures.objects in
    operations_listed (IsInside graph o) (postorder_of graph o)
    (subst (λ v. Lists (IsInside v o) (postorder_of v o)) c.graph-graph.ensures
    (subst (λ q. Lists (IsInside c.graph-graph.result.now q) (postorder_of c.graph-graph.result.now q)) c.object-root.ensures here))
