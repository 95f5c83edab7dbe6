use Rattle.std.proofs.Common.{length}
use Rattle.std.specs.Prelude.{IfSome}
use Rattle.irtext_graph.specs.Graph.{IsInside, IsLive}
use Rattle.irtext_graph.specs.Throughout.{all_from}
use Rattle.irtext_closed.specs.Noted.{AreScopes}
use Rattle.irtext_closed.proofs.scope.scopes_in.Given as goal

abbrev pub invariant-loop-at : goal.invariant-loop-at
invariant-loop-at g l = record {
  known : AreScopes l.ctx l.scopes;
  inside : IfSome l.at (λ q. IsInside l.ctx.graph l.top q);
  live : IfSome l.at (λ q. IsLive l.ctx.graph q);
}

abbrev pub decreases-loop-at : goal.decreases-loop-at
decreases-loop-at g l = length (all_from l.ctx.graph l.top l.at)
