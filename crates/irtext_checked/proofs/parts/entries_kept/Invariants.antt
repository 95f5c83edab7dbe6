use Rattle.irtext_context.specs.Entries.{entries_left}
use Rattle.irtext_grammar.specs.Contexts.Held.{entries_of}
use Rattle.irtext_grammar.specs.Graphs.Identifiers.{EntryHasIdentifiers}
use Rattle.irtext_grammar.specs.Spelling.Spellable.{Each}
use Rattle.irtext_checked.proofs.parts.entries_kept.Given as goal

-- once it is known of the entries that are left, it is known of all
abbrev pub invariant-loop-key : goal.invariant-loop-key
invariant-loop-key g l = Each EntryHasIdentifiers (entries_of (entries_left l.key-iterator)) → Each EntryHasIdentifiers (entries_of l.attributes)
