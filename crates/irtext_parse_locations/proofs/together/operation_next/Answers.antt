use Rattle.irtext_parse_locations.specs.Applied.{all_stored}
use Rattle.irtext_parse_locations.proofs.AllOrNone.{stored_into}
use Rattle.irtext_parse_locations.proofs.together.operation_next.Goals as goal

pub returns : goal.returns
returns g c = stored_into (all_stored c.args.once.now.entries c.args.pairs.items) _ c.attributes.result.now c.in_ok-next.next c.pairs_stored.new.attributes c.attributes.ensures c.in_ok-next.ensures c.in_ok-pairs_stored.ensures
