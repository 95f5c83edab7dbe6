use Rattle.irtext_names.proofs.Gained.{made_value}
use Rattle.irtext_names.proofs.kinds.ValueReferent.make.Goals as goal

pub returns-in-Ok-clause-made : goal.returns-in-Ok-clause-made
returns-in-Ok-clause-made g c = made_value c.in-Ok.op c.one.result c.one.ensures c.in-Ok.ensures.made
