use Rattle.std.proofs.Common.{◌≡◌}
use Rattle.irtext_graph.specs.Graph.{IsLive, IsInside}
use Rattle.irtext_walks.proofs.Afters.{rest}
use Rattle.irtext_walks.proofs.Forests.{level}
use Rattle.irtext_walks.proofs.preorder.after_nested.Given as goal

abbrev pub invariant-loop-root : goal.invariant-loop-root
invariant-loop-root g l = record {
  alive : IsLive l.graph l.past;
  within : IsInside l.graph l.root l.past;
  rest : rest l.graph l.root l.fn.at ≡ rest l.graph l.root l.past;
}

abbrev pub decreases-loop-root : goal.decreases-loop-root
decreases-loop-root g l = level l.graph l.past
