use Rattle.std.proofs.Common.{◌∷◌, reverse}
use Rattle.irtext_tree.specs.Growths.{heads_within}
use Rattle.irtext_tree.proofs.Growing.{Growing}
use Rattle.irtext_tree.proofs.grown.heads_after.Given as goal

abbrev pub invariant-loop-place : goal.invariant-loop-place
invariant-loop-place g l = Growing g.S.Grows.growth g.S.Grammar.reading l.fn.first l.fn.stream l.stream (reverse l.left.items) (l.fn.first ∷ l.found.items)

abbrev pub decreases-loop-place : goal.decreases-loop-place
decreases-loop-place g l = heads_within (reverse l.left.items) l.stream.rest
