use Rattle.irtext_tree.proofs.Fronts.{tree_filled}
use Rattle.irtext_tree.proofs.views.SubTree.children.Goals as goal

pub invariant_of-result : goal.invariant_of-result
invariant_of-result g c = record { filled = tree_filled g.S.Grows.growth c.args.self.head.now c.args.self.rest.now c.args.self.whole }
