use Rattle.irtext_context.specs.Dialects.{same_id}
use Rattle.irtext_context.specs.Named.{id_of_texts}
use Rattle.irtext_context.proofs.Named.{id_found, known_with_id, accepted_with_id, keyed_with_id}
use Rattle.irtext_context.proofs.dialect.Dialect.op_named.Goals as goal

pub returns-clause-found : goal.returns-clause-found
returns-clause-found c = rw (← c.self.view_is) (known_with_id c.get_key_value.result (same_id (id_of_texts c.args.dialect.now c.args.name.now)) c.self.inside.ops.entries c.get_key_value.ensures.value)

pub returns-clause-id : goal.returns-clause-id
returns-clause-id c = id_found c.args.dialect.now c.args.name.now c.get_key_value.result c.self.inside.ops.entries c.get_key_value.ensures.key

pub returns-clause-accepted : goal.returns-clause-accepted
returns-clause-accepted c =
    let i = c.self.inside in
    accepted_with_id c.get_key_value.result i.name (same_id (id_of_texts c.args.dialect.now c.args.name.now)) i.ops.entries c.get_key_value.ensures.value c.self.invariant.0

pub returns-clause-keyed : goal.returns-clause-keyed
returns-clause-keyed c = keyed_with_id c.get_key_value.result (same_id (id_of_texts c.args.dialect.now c.args.name.now)) c.self.inside.ops.entries c.get_key_value.ensures.value c.self.invariant.1
