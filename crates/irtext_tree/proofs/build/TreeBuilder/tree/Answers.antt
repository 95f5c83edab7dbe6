use Rattle.std.proofs.Common.{◌++◌, ◌∙◌, ap}
use Rattle.irtext_tree.proofs.Opened.{open_tree}
use Rattle.irtext_tree.proofs.build.TreeBuilder.tree.Goals as goal

pub returns-clause-open : goal.returns-clause-open
returns-clause-open g c =
    open_tree g.S.Grows.growth c.args.self.heads c.args.tree.heads _ (c.in_ok-heads.ensures ∙ ap (λ z. c.args.self.heads ++ z) c.into_heads.ensures) c.requires c.args.tree.whole
