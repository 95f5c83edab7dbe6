use Rattle.irtext_names.proofs.uses.name_placed.Goals as goal

pub returns-clause-placed : goal.returns-clause-placed
returns-clause-placed g c = (c.in-Ok.referent, c.in-Ok-push.ensures.items, c.in-Ok.ensures.takes)
