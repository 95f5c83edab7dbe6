use Rattle.std.proofs.Common.{◌≡◌, length}
use Rattle.irtext_graph.specs.Throughout.{all_from}
use Rattle.irtext_walks.specs.Walks.{IsAtLive}
use Rattle.irtext_walks.proofs.steps.pick_from.Given as goal

abbrev pub invariant-loop-at : goal.invariant-loop-at
invariant-loop-at g l = record {
  there : IsAtLive l.graph l.root l.at;
  picked : g.K.Picked.among (all_from l.graph l.root l.fn.from) ≡ g.K.Picked.among (all_from l.graph l.root l.at);
}

abbrev pub decreases-loop-at : goal.decreases-loop-at
decreases-loop-at g l = length (all_from l.graph l.root l.at)
