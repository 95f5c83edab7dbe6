use Rattle.irtext_tree.proofs.Opened.{open_none}
use Rattle.irtext_tree.proofs.build.TreeBuilder.finish.Goals as goal

pub invariant_of-result : goal.invariant_of-result
invariant_of-result g c = record { whole = open_none g.S.Grows.growth c.args.self.heads c.requires }
