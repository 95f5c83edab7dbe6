use Rattle.irtext_context.proofs.Listed.{accepted_at, keyed_at}
use Rattle.irtext_context.proofs.dialect.Dialect.op_by_index.Goals as goal

pub returns-clause-accepted : goal.returns-clause-accepted
returns-clause-accepted c = let i = c.self.inside in accepted_at i.name c.get_index.result i.ops.entries c.args.index c.get_index.ensures.entry c.self.invariant.0

pub returns-clause-keyed : goal.returns-clause-keyed
returns-clause-keyed c = keyed_at c.get_index.result c.self.inside.ops.entries c.args.index c.get_index.ensures.entry c.self.invariant.1
