use Rattle.irtext_grammar.specs.Contexts.Held.{entries_of}
use Rattle.irtext_names.specs.Gathering.{rule_of}
use Rattle.irtext_names.proofs.EntriesStored.{StoresEntries}
use Rattle.irtext_names.proofs.dictionary.entries_stored.Given as goal

abbrev pub invariant-loop-entry : goal.invariant-loop-entry
invariant-loop-entry g l = StoresEntries (rule_of l.fn.holder) (entries_of l.fn.attributes) (entries_of l.attributes) l.fn.entries.items l.entry-iterator.rest.items
