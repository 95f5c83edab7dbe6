use Rattle.irtext_tree.specs.Rows.{count}
use Rattle.irtext_tree.proofs.Fronts.{Cut}
use Rattle.irtext_tree.proofs.views.tree_len.Given as goal

abbrev pub invariant-loop-taken : goal.invariant-loop-taken
invariant-loop-taken g l = Cut g.S.Grows.growth (count (g.S.Grows.growth.waits l.fn.first)) l.heads l.waiting l.taken
