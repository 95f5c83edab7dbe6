use Rattle.irtext_parse_locations.specs.Applied.{all_stored, no_label}
use Rattle.irtext_parse_locations.proofs.AllOrNone.{stored_into}
use Rattle.irtext_parse_locations.proofs.together.block_next.Goals as goal

pub returns-clause-stored : goal.returns-clause-stored
returns-clause-stored g c = stored_into (no_label (all_stored c.args.once.now.entries c.args.pairs.items)) _ c.attributes.result.now c.in_ok-next.next c.block_pairs_stored.new.attributes c.attributes.ensures c.in_ok-next.ensures c.in_ok-label.ensures.stored
