use Rattle.std.proofs.Common.{◌∙◌, arith}
use Rattle.irtext_graph.specs.Graph.{children}
use Rattle.irtext_walks.proofs.Ends.{last_here}
use Rattle.irtext_walks.proofs.siblings.last_child.Goals as goal

pub returns-clause-last : goal.returns-clause-last
returns-clause-last g c =
    let n = c.num_children.ensures in
    let i = c.in_ok-index.ensures in
    c.child_at.ensures.child ∙ last_here (children c.args.graph.now c.args.o) c.in_ok-index.index (omega (arith, n, i))
