use Rattle.std.proofs.Common.{◌≡◌, ◌∙◌, subst, slice_get}
use Rattle.irtext_graph.specs.declared.object.Object.TheVariants.{TheBlock}
use Rattle.irtext_graph.specs.Parts.{blocks}
use Rattle.std.proofs.lemmas.Option.{slice_get-map}
use Rattle.irtext_walks.proofs.operations.PtrRegionRegionEnds.first_block.Goals as goal

pub returns-clause-first : goal.returns-clause-first
returns-clause-first g c =
    let xs = blocks c.graph.result.now c.args.self in
    subst (λ v. c.block_of.result ≡ slice_get (blocks v c.args.self) 0) c.graph.ensures
    (c.block_of.ensures.here (slice_get xs 0) (c.first_child.ensures.first ∙ slice_get-map TheBlock xs 0))
