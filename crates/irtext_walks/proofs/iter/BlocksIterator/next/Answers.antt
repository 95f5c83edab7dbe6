use Rattle.std.proofs.Common.{option_map, subst}
use Rattle.irtext_graph.specs.declared.object.Object.TheVariants.{TheBlock}
use Rattle.irtext_walks.specs.Walks.{IsAtLive}
use Rattle.irtext_walks.proofs.Merely.{at_live_there}
use Rattle.irtext_walks.proofs.iter.BlocksIterator.next.Goals as goal

pub next_picked-self-requires : goal.next_picked-self-requires
next_picked-self-requires g c =
    let walk = c.args.self.now in
    let graph = walk.graph.now in
    subst (λ at. IsAtLive graph walk.root (option_map TheBlock at)) c.in_ok-here.was
    (at_live_there graph c.keeps_nesting.ensures.forest walk.root (option_map TheBlock walk.at) walk.there)
