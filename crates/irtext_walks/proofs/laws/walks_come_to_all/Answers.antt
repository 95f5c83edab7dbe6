use Rattle.irtext_walks.proofs.Branches.{all_listed, post_listed}
use Rattle.irtext_walks.proofs.laws.walks_come_to_all.Goals as goal

pub returns-clause-preorder : goal.returns-clause-preorder
returns-clause-preorder g c = λ o. all_listed c.args.graph.now c.keeps_nesting.ensures.forest o

pub returns-clause-postorder : goal.returns-clause-postorder
returns-clause-postorder g c = λ o. post_listed c.args.graph.now c.keeps_nesting.ensures.forest o
