use Rattle.std.proofs.Common.{arith}
use Rattle.std.proofs.lemmas.Grind.{common_steps}
use Rattle.std.proofs.lemmas.List.Elements.{filter_map-append}
use Rattle.irtext_checked.proofs.types.present.Goals as goal

pub loop-of_type-preserved : goal.loop-of_type-preserved
loop-of_type-preserved g c = record { found = grind (arith, common_steps, filter_map-append) }
