use Rattle.std.proofs.Common.{Err, refl, rules, arith}
use Rattle.irtext_grammar.specs.Contexts.Held.{entries_of}
use Rattle.irtext_names.specs.Gathering.{rule_of}
use Rattle.irtext_names.proofs.EntriesStored.{stores_none, stores_more, stores_refused, all_stored}
use Rattle.irtext_names.proofs.Ordering.{none_left}
use Rattle.irtext_names.proofs.dictionary.entries_stored.Goals as goal

pub loop-entry-init : goal.loop-entry-init
loop-entry-init g c = stores_none (rule_of c.args.holder) (entries_of c.args.attributes.now) c.args.entries.items c.into_iter-entry-iterator.result.rest.items (search rules)

pub loop-entry-preserved : goal.loop-entry-preserved
loop-entry-preserved g c = stores_more (rule_of c.args.holder) c.loop-entry.invariant c.in-Some.ensures.steps.0 c.in_default.ensures.stored c.in_default.ensures.allowed

pub returns-in-Err-clause-refused : goal.returns-in-Err-clause-refused
returns-in-Err-clause-refused g c =
    stores_refused (rule_of c.args.holder) c.loop-entry.invariant c.in-Some.ensures.steps.0 {X = Unit {0}} (Err c.in-Err.refusal) c.in-Err.refusal refl c.in-Err.ensures.refused

pub returns-clause-stored : goal.returns-clause-stored
returns-clause-stored g c =
    let l = c.loop-entry in
    (all_stored (rule_of c.args.holder) l.invariant (none_left l.entry-iterator.rest.items (omega (arith, c.in-None.ensures.steps.0, l.entry-iterator.rest.ok.0)))).0

pub returns-clause-allowed : goal.returns-clause-allowed
returns-clause-allowed g c =
    let l = c.loop-entry in
    (all_stored (rule_of c.args.holder) l.invariant (none_left l.entry-iterator.rest.items (omega (arith, c.in-None.ensures.steps.0, l.entry-iterator.rest.ok.0)))).1
