use Rattle.irtext_parse_locations.proofs.together.is_live.Goals as goal

pub returns-in-Operation : goal.returns-in-Operation
returns-in-Operation g c = rw c.in-Operation.is c.contains_operation.ensures.alive

pub returns-in-Block : goal.returns-in-Block
returns-in-Block g c = rw c.in-Block.is c.contains_block.ensures.alive
