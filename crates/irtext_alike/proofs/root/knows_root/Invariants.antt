use Rattle.std.proofs.Common.{length}
use Rattle.std.specs.Prelude.{IfSome}
use Rattle.irtext_graph.specs.Graph.{IsInside, IsLive}
use Rattle.irtext_graph.specs.Throughout.{all_from}
use Rattle.irtext_graph.specs.declared.object.Object.{Object}
use Rattle.irtext_alike.proofs.Walk.{ComesOrAlike}
use Rattle.irtext_alike.proofs.root.knows_root.Given as goal

-- each object of the root comes from now on, or is known alike
abbrev pub invariant-loop-at : goal.invariant-loop-at
invariant-loop-at g l = record {
  so_far : (q : Object) → IsInside l.ctx.graph l.top q → ComesOrAlike l.ctx l.other.dialects l.fn.root l.at q;
  inside : IfSome l.at (λ q. IsInside l.ctx.graph l.top q);
  live : IfSome l.at (λ q. IsLive l.ctx.graph q);
}

abbrev pub decreases-loop-at : goal.decreases-loop-at
decreases-loop-at g l = length (all_from l.ctx.graph l.top l.at)
