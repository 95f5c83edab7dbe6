use Rattle.irtext_context.proofs.Named.{name_found}
use Rattle.irtext_context.proofs.base.context.Context.dialect_named.Goals as goal

pub returns-clause-name : goal.returns-clause-name
returns-clause-name g c = name_found c.args.name.now c.get_key_value.result c.self.inside.dialects.entries c.get_key_value.ensures.key
