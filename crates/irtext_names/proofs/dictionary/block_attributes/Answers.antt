use Rattle.std.proofs.Common.{map}
use Rattle.irtext_names.specs.Gathering.{entries_in, entry_read}
use Rattle.irtext_names.proofs.BlockEntries.{names_after}
use Rattle.irtext_names.proofs.dictionary.block_attributes.Goals as goal

pub returns-in-Ok-clause-stored : goal.returns-in-Ok-clause-stored
returns-in-Ok-clause-stored g c = names_after c.args.names.now.names c.args.arguments.now c.with_seed-attributes.result c.dictionary_stored.new.attributes c.names_stored.new.attributes (map entry_read (entries_in c.args.entries)) c.with_seed-attributes.ensures c.in_default.ensures.stored c.in-Ok.ensures
