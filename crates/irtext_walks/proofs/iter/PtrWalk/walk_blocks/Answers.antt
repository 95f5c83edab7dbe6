use Rattle.std.proofs.Common.{◌∙◌, ap, subst}
use Rattle.irtext_graph.specs.Chained.{Lists}
use Rattle.irtext_graph.specs.Graph.{IsInside}
use Rattle.irtext_walks.specs.Walks.{all_in, blocks_inside}
use Rattle.irtext_walks.proofs.Listed.{blocks_listed}
use Rattle.irtext_walks.proofs.iter.PtrWalk.walk_blocks.Goals as goal

pub returns-clause-left : goal.returns-clause-left
returns-clause-left g c =
    c.first_picked.ensures.first ∙ ap (λ v. blocks_inside v c.object-root.result) c.graph-graph.ensures
    ∙ ap (blocks_inside (g.C.HasGraph.graph c.args.ctx.now)) c.object-root.ensures

pub returns-clause-all : goal.returns-clause-all
returns-clause-all g c =
    let graph = g.C.HasGraph.graph c.args.ctx.now in
    let o = g.K.Kind.object c.args.self in
    let here = c.first_picked.ensures.objects in
    blocks_listed (IsInside graph o) (all_in graph o)
    (subst (λ v. Lists (IsInside v o) (all_in v o)) c.graph-graph.ensures
    (subst (λ q. Lists (IsInside c.graph-graph.result.now q) (all_in c.graph-graph.result.now q)) c.object-root.ensures here))
