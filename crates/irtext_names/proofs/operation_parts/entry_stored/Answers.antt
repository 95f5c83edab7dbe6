use Rattle.std.proofs.Common.{◌∷◌, [], sym, subst}
use Rattle.irtext_names.specs.Gathering.{RefusesEntries}
use Rattle.irtext_names.proofs.Stored.{entry_refused}
use Rattle.irtext_names.proofs.operation_parts.entry_stored.Goals as goal

pub returns-in-Ok-clause-holds : goal.returns-in-Ok-clause-holds
returns-in-Ok-clause-holds g c = (c.in-Ok.ensures.holds, tt)

pub returns-in-Err-clause-refused : goal.returns-in-Err-clause-refused
returns-in-Err-clause-refused g c = subst (RefusesEntries (c.args.entry ∷ [])) (sym c.refused.ensures) (entry_refused c.args.entry.0.name c.args.entry.0.at c.args.entry.1 c.in-Err.refusal c.in-Err.ensures.refused)
