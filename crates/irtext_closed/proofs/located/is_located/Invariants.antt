use Rattle.std.proofs.Common.{length}
use Rattle.std.specs.Prelude.{IfSome}
use Rattle.irtext_graph.specs.Graph.{IsInside, IsLive}
use Rattle.irtext_graph.specs.Throughout.{all_from}
use Rattle.irtext_graph.specs.declared.object.Object.{Object}
use Rattle.irtext_closed.proofs.Walk.{ComesOr}
use Rattle.irtext_closed.specs.Located.{IsLocatedAt}
use Rattle.irtext_closed.proofs.located.is_located.Given as goal

-- each object of the root comes from now on, or the files of its location are kept
abbrev pub invariant-loop-at : goal.invariant-loop-at
invariant-loop-at g l = record {
  so_far : (q : Object) → IsInside l.ctx.graph l.top q → ComesOr l.ctx.graph l.top (IsLocatedAt l.ctx) l.at q;
  inside : IfSome l.at (λ q. IsInside l.ctx.graph l.top q);
  live : IfSome l.at (λ q. IsLive l.ctx.graph q);
}

abbrev pub decreases-loop-at : goal.decreases-loop-at
decreases-loop-at g l = length (all_from l.ctx.graph l.top l.at)
