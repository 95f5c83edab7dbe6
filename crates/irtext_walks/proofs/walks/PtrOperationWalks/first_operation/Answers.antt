use Rattle.std.proofs.Common.{◌≡◌, subst}
use Rattle.irtext_graph.specs.Chained.{Lists}
use Rattle.irtext_graph.specs.Graph.{IsInside}
use Rattle.irtext_walks.specs.Walks.{all_in, operations_from, operations_inside}
use Rattle.irtext_walks.proofs.Listed.{operations_listed}
use Rattle.irtext_walks.proofs.walks.PtrOperationWalks.first_operation.Goals as goal

pub returns-clause-first : goal.returns-clause-first
returns-clause-first g c =
    let r = c.first_picked.result in
    subst (λ v. operations_from v (g.K.Kind.object c.args.self) r ≡ operations_inside v (g.K.Kind.object c.args.self)) c.graph.ensures
    (subst (λ o. operations_from c.graph.result.now o r ≡ operations_inside c.graph.result.now o) c.object.ensures c.first_picked.ensures.first)

pub returns-clause-all : goal.returns-clause-all
returns-clause-all g c =
    let graph = g.C.HasGraph.graph c.args.ctx.now in
    let o = g.K.Kind.object c.args.self in
    let here = c.first_picked.ensures.objects in
    operations_listed (IsInside graph o) (all_in graph o)
    (subst (λ v. Lists (IsInside v o) (all_in v o)) c.graph.ensures
    (subst (λ q. Lists (IsInside c.graph.result.now q) (all_in c.graph.result.now q)) c.object.ensures here))
