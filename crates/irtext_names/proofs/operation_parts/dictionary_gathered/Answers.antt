use Rattle.std.proofs.Common.{refl}
use Rattle.irtext_names.proofs.Pieces.{dictionary_tried, dictionary_refused}
use Rattle.irtext_names.proofs.operation_parts.dictionary_gathered.Goals as goal

pub returns-clause-gathers : goal.returns-clause-gathers
returns-clause-gathers g c = dictionary_tried c.args.gathered.now _ c.entries_stored.result c.args.entries refl refl refl refl c.entries_stored.ensures.stored c.entries_stored.ensures.allowed

pub returns-clause-refused : goal.returns-clause-refused
returns-clause-refused g c = dictionary_refused _ c.entries_stored.result c.args.entries c.entries_stored.ensures.refused
