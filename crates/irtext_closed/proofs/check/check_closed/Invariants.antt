use Rattle.std.proofs.Common.{◌⊎◌, length}
use Rattle.std.specs.Prelude.{IfSome}
use Rattle.irtext_graph.specs.Chained.{Among}
use Rattle.irtext_graph.specs.Graph.{IsInside, IsLive}
use Rattle.irtext_graph.specs.Throughout.{all_from}
use Rattle.irtext_graph.specs.declared.object.Object.{Object}
use Rattle.irtext_closed.specs.First.{IsClosedAt}
use Rattle.irtext_closed.proofs.check.check_closed.Given as goal

-- each object of the root comes from now on, or is closed
abbrev pub invariant-loop-at : goal.invariant-loop-at
invariant-loop-at g l = record {
  so_far : (q : Object) → IsInside l.ctx.graph l.top q → Among q (all_from l.ctx.graph l.top l.at) ⊎ IsClosedAt l.ctx q;
  inside : IfSome l.at (λ q. IsInside l.ctx.graph l.top q);
  live : IfSome l.at (λ q. IsLive l.ctx.graph q);
}

abbrev pub decreases-loop-at : goal.decreases-loop-at
decreases-loop-at g l = length (all_from l.ctx.graph l.top l.at)
