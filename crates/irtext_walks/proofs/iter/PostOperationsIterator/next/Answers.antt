use Rattle.std.proofs.Common.{option_map, subst}
use Rattle.irtext_graph.specs.declared.object.Object.TheVariants.{TheOperation}
use Rattle.irtext_walks.specs.Walks.{IsAtLive}
use Rattle.irtext_walks.proofs.Merely.{at_live_there}
use Rattle.irtext_walks.proofs.iter.PostOperationsIterator.next.Goals as goal

pub next_picked_post-self-requires : goal.next_picked_post-self-requires
next_picked_post-self-requires g c =
    let walk = c.args.self.now in
    let graph = walk.graph.now in
    subst (λ at. IsAtLive graph walk.root (option_map TheOperation at)) c.in_ok-here.was
    (at_live_there graph c.keeps_nesting.ensures.forest walk.root (option_map TheOperation walk.at) walk.there)
