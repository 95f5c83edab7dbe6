use Rattle.std.proofs.Common.{◌≡◌, ◌<◌, ℕ, Some}
use Rattle.irtext_graph.specs.declared.object.Object.{Object}
use Rattle.irtext_graph.specs.Objects.{up, Lives}
use Rattle.irtext_graph.proofs.Depth.{depth_of}
use Rattle.irtext_graph.specs.Nested.{climb}
use Rattle.irtext_graph.proofs.objects.Objects.is_inside.Given as goal

abbrev pub invariant-loop-at : goal.invariant-loop-at
invariant-loop-at g l = record {
  steps : ℕ;
  way : climb (up l.self) steps (Some l.fn.q) ≡ l.at;
  apart : (j : ℕ) → j < steps → climb (up l.self) j (Some l.fn.q) ≡ Some l.o → ⊥;
  lives : (p : Object) → l.at ≡ Some p → Lives l.self p;
}

abbrev pub decreases-loop-at : goal.decreases-loop-at
decreases-loop-at g l = depth_of l.self l.at
