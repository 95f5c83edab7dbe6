-- That an object is live and inside another one can be found out, so it is enough to know that there is a proof of it.
use Rattle.std.proofs.Common.{inl, inr, Option, Some, None}
use Rattle.std.proofs.Math.Bool.{Bool-set}
use Rattle.std.proofs.Math.Logic.{∥∥₁_elim}
use Rattle.irtext_graph.specs.declared.object.Object.{Object}
use Rattle.irtext_graph.specs.Graph.{GraphView, parent, children}
use Rattle.irtext_graph.specs.Nested.{Nested}
use Rattle.irtext_graph.specs.Objects.{eq_object}
use Rattle.irtext_graph.proofs.Inside.{within_or}
use Rattle.irtext_graph.proofs.Same.{object_tells}
use Rattle.irtext_walks.specs.Walks.{IsAtLive}

pub at_live_there : {O B T : Type 0} (g : GraphView O B T) → Nested (children g) (parent g) → (o : Object) (at : Option Object) → ∥ IsAtLive g o at ∥₁
    → IsAtLive g o at
at_live_there g s o None t = tt
at_live_there g s o (Some q) t = elim (within_or eq_object object_tells (parent g) s.ends o q) [
  | inl w ↦ record { alive = ∥∥₁_elim t (Bool-set _ _) (λ h. h.alive); within = w }
  | inr apart ↦ absurd (∥∥₁_elim t (λ x y. absurd x) (λ h. apart h.within))
]
