use Rattle.std.proofs.Common.{◌≡◌, ◌++◌, ◌∷◌}
use Rattle.irtext_tree.proofs.heads.appended.Given as goal

abbrev pub invariant-loop-head : goal.invariant-loop-head
invariant-loop-head g l = l.heads.items ++ l.head-iterator.rest.items ≡ l.fn.heads.items ++ (l.fn.next ∷ l.fn.more.items)
