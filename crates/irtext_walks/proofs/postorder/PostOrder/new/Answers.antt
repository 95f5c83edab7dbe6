use Rattle.std.proofs.Common.{◌≡◌, subst, Some}
use Rattle.irtext_graph.specs.Chained.{Lists}
use Rattle.irtext_graph.specs.Graph.{IsInside}
use Rattle.irtext_walks.specs.Postorder.{post_from, postorder_of}
use Rattle.irtext_walks.proofs.postorder.PostOrder.new.Goals as goal

pub returns-clause-first : goal.returns-clause-first
returns-clause-first g c =
    let first = c.first_in_postorder in
    subst (λ v. post_from v c.args.root (Some first.result) ≡ postorder_of v c.args.root) c.graph.ensures first.ensures.first

pub returns-clause-objects : goal.returns-clause-objects
returns-clause-objects g c = subst (λ v. Lists (IsInside v c.args.root) (postorder_of v c.args.root)) c.graph.ensures c.first_in_postorder.ensures.objects
