use Rattle.std.proofs.Common.{◌≡◌, ◌++◌, ◌-◌, length}
use Rattle.irtext_grammar.specs.Grammar.Tree.{in_order_from, in_order}
use Rattle.irtext_names.proofs.making.ordered.Given as goal

abbrev pub invariant-loop-place : goal.invariant-loop-place
invariant-loop-place g l = l.all.items ++ in_order_from (length l.fn.items.items - l.place) l.place l.items.items ≡ in_order l.fn.items.items
