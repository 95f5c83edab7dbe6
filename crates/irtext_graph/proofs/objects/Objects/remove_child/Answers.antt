use Rattle.std.proofs.Common.{◌∙◌, ap, map}
use Rattle.irtext_graph.specs.declared.object.Object.TheVariants.{TheOperation, TheBlock, TheRegion}
use Rattle.irtext_graph.proofs.Unlinked.{map-remove}
use Rattle.irtext_graph.proofs.objects.Objects.remove_child.Goals as goal

pub returns-in-TheOperation-clause-here : goal.returns-in-TheOperation-clause-here
returns-in-TheOperation-clause-here g c = rw c.in-TheOperation.is (ap (map TheRegion) c.remove_child.ensures.here ∙ map-remove TheRegion _ c.args.i)

pub returns-in-TheBlock-clause-here : goal.returns-in-TheBlock-clause-here
returns-in-TheBlock-clause-here g c = rw c.in-TheBlock.is (ap (map TheOperation) c.remove_child-in-TheBlock.ensures.here ∙ map-remove TheOperation _ c.args.i)

pub returns-in-TheRegion-clause-here : goal.returns-in-TheRegion-clause-here
returns-in-TheRegion-clause-here g c = rw c.in-TheRegion.is (ap (map TheBlock) c.remove_child-in-TheRegion.ensures.here ∙ map-remove TheBlock _ c.args.i)
