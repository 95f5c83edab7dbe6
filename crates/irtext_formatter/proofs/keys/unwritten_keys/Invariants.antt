use Rattle.std.proofs.Common.{◌≡◌, ◌++◌, map}
use Rattle.irtext_base.specs.FormatViews.{directives_of}
use Rattle.irtext_context.specs.Entries.{entries_left}
use Rattle.irtext_formatter.specs.Keys.{unwritten_keys}
use Rattle.irtext_formatter.proofs.keys.unwritten_keys.Given as goal

-- the keys so far, and those of the entries that are left
abbrev pub invariant-loop-key : goal.invariant-loop-key
invariant-loop-key g l = map (λ key. key.now) l.found.items ++ unwritten_keys (directives_of l.directives) (entries_left l.key-iterator) ≡ unwritten_keys (directives_of l.directives) l.attributes
