use Rattle.irtext_parse_locations.specs.Applied.{all_stored, no_label}
use Rattle.irtext_parse_locations.proofs.GivenSteps.{stores_block}
use Rattle.irtext_parse_locations.proofs.applied.block_stored.Goals as goal

pub returns-clause-stores : goal.returns-clause-stores
returns-clause-stores g c =
    stores_block c.args.at (no_label (all_stored c.args.once.now.entries c.args.pairs.items)) c.block_attributes_mut.result.now c.block_pairs_stored.new.attributes c.block_pairs_stored.result c.block_attributes_mut.ensures.value (c.block_attributes_mut.ensures.edits c.block_pairs_stored.new.attributes) c.block_pairs_stored.ensures.stored

pub returns-clause-edits : goal.returns-clause-edits
returns-clause-edits g c = record { left = c.block_pairs_stored.new.attributes; edits = c.block_attributes_mut.ensures.edits c.block_pairs_stored.new.attributes }

pub returns-clause-kept : goal.returns-clause-kept
returns-clause-kept g c = c.block_attributes_mut.ensures.kept c.block_pairs_stored.new.attributes
