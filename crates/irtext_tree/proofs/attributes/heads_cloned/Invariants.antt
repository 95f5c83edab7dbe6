use Rattle.std.proofs.Common.{◌≡◌, take}
use Rattle.irtext_tree.proofs.attributes.heads_cloned.Given as goal

abbrev pub invariant-loop-head : goal.invariant-loop-head
invariant-loop-head g l = l.copies.items ≡ take l.head-index l.heads
