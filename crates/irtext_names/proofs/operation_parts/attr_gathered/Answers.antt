use Rattle.std.proofs.Common.{refl}
use Rattle.irtext_names.proofs.Pieces.{marker_if, attribute_tried}
use Rattle.irtext_names.proofs.operation_parts.attr_gathered.Goals as goal

pub returns-in-None-clause-gathers : goal.returns-in-None-clause-gathers
returns-in-None-clause-gathers g c = marker_if c.args.gathered.now c.args.gathered.now c.args.key c.args.attr c.in-None.is refl

pub returns-in-Some-clause-gathers : goal.returns-in-Some-clause-gathers
returns-in-Some-clause-gathers g c = attribute_tried c.args.gathered.now _ c.kept.result c.args.key c.args.attr c.in-Some.attr c.in-Some.is refl refl refl refl c.kept.ensures.stored
