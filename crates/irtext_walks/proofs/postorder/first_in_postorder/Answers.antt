use Rattle.irtext_walks.proofs.Branches.{post_listed}
use Rattle.irtext_walks.proofs.postorder.first_in_postorder.Goals as goal

pub returns-clause-objects : goal.returns-clause-objects
returns-clause-objects g c = post_listed c.args.graph.now c.keeps_nesting.ensures.forest c.args.root
