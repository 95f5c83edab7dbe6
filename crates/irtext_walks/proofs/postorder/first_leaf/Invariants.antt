use Rattle.std.proofs.Common.{◌≡◌, ◌++◌, ◌-◌, suc, Some}
use Rattle.irtext_graph.specs.declared.object.Object.{Object}
use Rattle.irtext_graph.specs.Graph.{IsLive, IsInside}
use Rattle.irtext_graph.specs.Throughout.{places}
use Rattle.irtext_walks.specs.Postorder.{postorder_of, post_after}
use Rattle.irtext_walks.proofs.Forests.{level}
use Rattle.irtext_walks.proofs.postorder.first_leaf.Given as goal

abbrev pub invariant-loop-at : goal.invariant-loop-at
invariant-loop-at g l = record {
  alive : IsLive l.graph l.at;
  within : IsInside l.graph l.fn.from l.at;
  first : (o : Object) → IsInside l.graph o l.fn.from
      → postorder_of l.graph l.at ++ post_after l.graph o (Some l.at) ≡ postorder_of l.graph l.fn.from ++ post_after l.graph o (Some l.fn.from);
}

abbrev pub decreases-loop-at : goal.decreases-loop-at
decreases-loop-at g l = suc (places l.graph) - level l.graph l.at
