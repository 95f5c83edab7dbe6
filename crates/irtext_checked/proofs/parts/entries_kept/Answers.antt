use Rattle.std.proofs.Common.{◌∙◌, ap, sym, subst}
use Rattle.irtext_context.specs.Entries.{entries_left}
use Rattle.irtext_grammar.specs.Contexts.Held.{entries_of}
use Rattle.irtext_grammar.specs.Graphs.Identifiers.{EntryHasIdentifiers}
use Rattle.irtext_grammar.specs.Spelling.Spellable.{Each}
use Rattle.irtext_checked.proofs.parts.entries_kept.Goals as goal

pub loop-key-init : goal.loop-key-init
loop-key-init g c = λ h. subst (λ z. Each EntryHasIdentifiers (entries_of z)) (ap entries_left c.into_iter-key-iterator.ensures.into_iter_gives ∙ c.iter-key-items.ensures) h

pub loop-key-preserved : goal.loop-key-preserved
loop-key-preserved g c = λ h. c.loop-key.invariant (subst (λ z. Each EntryHasIdentifiers (entries_of z)) (sym c.in-Some.ensures.steps) ((c.identifier_kept.ensures, c.attr_kept.ensures.tree), h))

pub returns : goal.returns
returns g c = c.loop-key.invariant (subst (λ z. Each EntryHasIdentifiers (entries_of z)) (sym c.in-None.ensures.steps.0) tt)
