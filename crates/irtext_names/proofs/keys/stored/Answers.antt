use Rattle.irtext_names.proofs.Stores.{stored_ok, holds_ok}
use Rattle.irtext_names.proofs.keys.stored.Goals as goal

pub returns-clause-stored : goal.returns-clause-stored
returns-clause-stored g c = stored_ok c.insert.result c.args.attributes.now c.insert.new.self c.args.key c.args.attr c.insert.ensures.entries

pub returns-clause-holds : goal.returns-clause-holds
returns-clause-holds g c = holds_ok c.insert.result c.args.key c.args.attr c.insert.ensures.allowed
