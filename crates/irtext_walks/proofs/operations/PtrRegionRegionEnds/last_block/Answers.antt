use Rattle.std.proofs.Common.{◌≡◌, ◌∙◌, subst}
use Rattle.irtext_graph.specs.declared.object.Object.TheVariants.{TheBlock}
use Rattle.irtext_graph.specs.Parts.{blocks}
use Rattle.irtext_walks.specs.Siblings.{last_item}
use Rattle.irtext_walks.proofs.Ends.{last_mapped}
use Rattle.irtext_walks.proofs.operations.PtrRegionRegionEnds.last_block.Goals as goal

pub returns-clause-last : goal.returns-clause-last
returns-clause-last g c =
    let xs = blocks c.graph.result.now c.args.self in
    subst (λ v. c.block_of.result ≡ last_item (blocks v c.args.self)) c.graph.ensures
    (c.block_of.ensures.here (last_item xs) (c.last_child.ensures.last ∙ last_mapped TheBlock xs))
