use Rattle.irtext_graph.specs.Graph.{IsLive}
use Rattle.irtext_closed.specs.Closed.{isolated_data}
use Rattle.irtext_closed.proofs.Depth.{depth_of}
use Rattle.irtext_closed.proofs.Scopes.{Climbed}
use Rattle.irtext_closed.proofs.scope.scope_of.Given as goal

abbrev pub invariant-loop-holder : goal.invariant-loop-holder
invariant-loop-holder g l = record {
  climbed : Climbed (isolated_data l.ctx.dialects) l.ctx.graph l.fn.o l.at;
  live : IsLive l.ctx.graph l.at;
}

abbrev pub decreases-loop-holder : goal.decreases-loop-holder
decreases-loop-holder g l = depth_of l.ctx.graph l.at
