use Rattle.irtext_context.proofs.KeptKeys
use Rattle.irtext_context.proofs.base.attributes.AttributeDict.keeps_keys.Goals as goal

pub returns-clause-differ : goal.returns-clause-differ
returns-clause-differ g c = rw (← c.self.view_is) (KeptKeys.keys_differ c.self.inside.given c.self.inside.others c.self.invariant c.keeps_keys.ensures)

pub returns-clause-reserved : goal.returns-clause-reserved
returns-clause-reserved g c = rw (← c.self.view_is) (KeptKeys.keys_reserved c.self.inside.given c.self.inside.others c.self.invariant)
