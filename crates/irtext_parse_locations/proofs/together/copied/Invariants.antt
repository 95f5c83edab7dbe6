use Rattle.std.proofs.Common.{◌≡◌, ◌++◌}
use Rattle.irtext_context.specs.Entries.{entries_left}
use Rattle.irtext_grammar.specs.Contexts.Held.{entries_of}
use Rattle.irtext_parse_locations.proofs.together.copied.Given as goal

-- what was copied, and then what is left, are all entries
abbrev pub invariant-loop-key : goal.invariant-loop-key
invariant-loop-key g l = entries_of l.copy ++ entries_of (entries_left l.key-iterator) ≡ entries_of l.attributes
