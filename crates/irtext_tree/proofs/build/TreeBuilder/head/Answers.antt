use Rattle.irtext_tree.proofs.Opened.{open_head}
use Rattle.irtext_tree.proofs.build.TreeBuilder.head.Goals as goal

pub returns-clause-open : goal.returns-clause-open
returns-clause-open g c = open_head g.S.Grows.growth c.args.self.heads c.args.head _ c.in_ok-heads.ensures c.requires
