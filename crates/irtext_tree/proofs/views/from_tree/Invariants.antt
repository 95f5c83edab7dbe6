use Rattle.std.proofs.Common.{◌≡◌, length}
use Rattle.irtext_tree.specs.Rows.{Filled, children_in}
use Rattle.irtext_tree.proofs.views.from_tree.Given as goal

abbrev pub invariant-loop-head : goal.invariant-loop-head
invariant-loop-head g l =
    (children_in g.S.Grows.growth l.left ≡ children_in g.S.Grows.growth l.fn.heads)
    × (∥ Filled g.S.Grows.growth l.fn.heads ∥₁ → ∥ Filled g.S.Grows.growth l.left ∥₁)

abbrev pub decreases-loop-head : goal.decreases-loop-head
decreases-loop-head g l = length l.left
