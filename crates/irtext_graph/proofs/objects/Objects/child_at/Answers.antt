use Rattle.std.proofs.Common.{◌∙◌, ap, option_map}
use Rattle.std.proofs.lemmas.Option.{slice_get-map}
use Rattle.irtext_graph.specs.declared.object.Object.TheVariants.{TheOperation, TheBlock, TheRegion}
use Rattle.irtext_graph.proofs.objects.Objects.child_at.Goals as goal

pub returns-in-TheOperation : goal.returns-in-TheOperation
returns-in-TheOperation g c = rw c.in-TheOperation.is (slice_get-map TheRegion _ c.args.i ∙ ap (option_map TheRegion) c.child_at.ensures)

pub returns-in-TheBlock : goal.returns-in-TheBlock
returns-in-TheBlock g c = rw c.in-TheBlock.is (slice_get-map TheOperation _ c.args.i ∙ ap (option_map TheOperation) c.child_at-in-TheBlock.ensures)

pub returns-in-TheRegion : goal.returns-in-TheRegion
returns-in-TheRegion g c = rw c.in-TheRegion.is (slice_get-map TheBlock _ c.args.i ∙ ap (option_map TheBlock) c.child_at-in-TheRegion.ensures)
