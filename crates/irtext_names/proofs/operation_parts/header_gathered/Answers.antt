use Rattle.std.proofs.Common.{refl}
use Rattle.irtext_names.proofs.Pieces.{header_tried}
use Rattle.irtext_names.proofs.operation_parts.header_gathered.Goals as goal

pub returns-clause-gathers : goal.returns-clause-gathers
returns-clause-gathers g c = header_tried c.args.gathered.now _ c.kept.result c.in-Ok.key c.args.symbol c.in-Ok.ensures refl refl refl refl c.kept.ensures.stored
