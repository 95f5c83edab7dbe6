use Rattle.irtext_names.proofs.dictionary.held_entry_stored.Goals as goal

pub returns-in-Operation : goal.returns-in-Operation
returns-in-Operation g c = let e = c.entry_stored.ensures in record { stored = e.stored; allowed = rw c.in-Operation.is e.holds; refused = rw c.in-Operation.is e.refused }

pub returns-in-Block : goal.returns-in-Block
returns-in-Block g c = let e = c.block_entry_stored.ensures in record { stored = e.stored; allowed = rw c.in-Block.is e.allowed; refused = rw c.in-Block.is e.refused }
