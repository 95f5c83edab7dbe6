use Rattle.std.proofs.Common.{◌∙◌, sym}
use Rattle.std.proofs.lemmas.List.{length-map}
use Rattle.irtext_graph.specs.declared.object.Object.TheVariants.{TheOperation, TheBlock, TheRegion}
use Rattle.irtext_graph.proofs.objects.Objects.child_count.Goals as goal

pub returns-in-TheOperation : goal.returns-in-TheOperation
returns-in-TheOperation g c = rw c.in-TheOperation.is (c.child_count.ensures ∙ sym (length-map _ TheRegion))

pub returns-in-TheBlock : goal.returns-in-TheBlock
returns-in-TheBlock g c = rw c.in-TheBlock.is (c.child_count-in-TheBlock.ensures ∙ sym (length-map _ TheOperation))

pub returns-in-TheRegion : goal.returns-in-TheRegion
returns-in-TheRegion g c = rw c.in-TheRegion.is (c.child_count-in-TheRegion.ensures ∙ sym (length-map _ TheBlock))
