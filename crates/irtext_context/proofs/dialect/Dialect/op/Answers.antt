use Rattle.std.proofs.Common.{sym, subst}
use Rattle.irtext_context.specs.Dialects.{known_entries, same_id}
use Rattle.irtext_context.proofs.Dialects.{IsAccepted, known_after, accepted_found, accepted_after, keyed_after}
use Rattle.irtext_context.proofs.dialect.Dialect.op.Goals as goal

pub returns-clause-found : goal.returns-clause-found
returns-clause-found c = rw (← c.self.view_is) (known_after c.found.result (same_id c.args.id.now) c.self.inside.ops.entries c.found.ensures)

pub returns-clause-accepted : goal.returns-clause-accepted
returns-clause-accepted c =
    let i = c.self.inside in
    let found = known_after c.found.result (same_id c.args.id.now) i.ops.entries c.found.ensures in
    accepted_after c.found.result (subst (λ o. IsAccepted o) (sym found) (accepted_found i.name (same_id c.args.id.now) (known_entries i.ops.entries) c.self.invariant.0))

pub returns-clause-keyed : goal.returns-clause-keyed
returns-clause-keyed c = keyed_after c.found.result (same_id c.args.id.now) c.self.inside.ops.entries c.found.ensures c.self.invariant.1
