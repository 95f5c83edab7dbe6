use Rattle.irtext_parse_locations.specs.Applied.{all_stored}
use Rattle.irtext_parse_locations.proofs.GivenSteps.{stores_operation}
use Rattle.irtext_parse_locations.proofs.applied.operation_stored.Goals as goal

pub returns-clause-stores : goal.returns-clause-stores
returns-clause-stores g c =
    stores_operation c.args.op (all_stored c.args.once.now.entries c.args.pairs.items) c.operation_attributes_mut.result.now c.pairs_stored.new.attributes c.pairs_stored.result c.operation_attributes_mut.ensures.value (c.operation_attributes_mut.ensures.edits c.pairs_stored.new.attributes) c.pairs_stored.ensures

pub returns-clause-edits : goal.returns-clause-edits
returns-clause-edits g c = record { left = c.pairs_stored.new.attributes; edits = c.operation_attributes_mut.ensures.edits c.pairs_stored.new.attributes }

pub returns-clause-kept : goal.returns-clause-kept
returns-clause-kept g c = c.operation_attributes_mut.ensures.kept c.pairs_stored.new.attributes
