use Rattle.std.proofs.Common.{◌≡◌, ◌++◌}
use Rattle.irtext_grammar.specs.Grammar.Tree.{in_order}
use Rattle.irtext_names.proofs.making.all_placed.Given as goal

abbrev pub invariant-loop-item : goal.invariant-loop-item
invariant-loop-item g l = l.all.items ++ l.item-iterator.rest.items ≡ in_order l.fn.placed.single.items ++ l.fn.placed.list.items
