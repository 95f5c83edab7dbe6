use Rattle.std.proofs.Common.{◌≡◌}
use Rattle.irtext_base.specs.FormatViews.{directives_of}
use Rattle.irtext_context.specs.Entries.{entries_left}
use Rattle.irtext_grammar.specs.Contexts.Held.{entries_of}
use Rattle.irtext_print_ops.specs.Fits.{first_uncovered}
use Rattle.irtext_print_ops.proofs.fits.first_uncovered.Given as goal

-- the first key that is looked for is one of those that are left
abbrev pub invariant-loop-key : goal.invariant-loop-key
invariant-loop-key g l = first_uncovered g.A.AttrText.outlined (directives_of l.directives) (entries_of (entries_left l.key-iterator)) ≡ first_uncovered g.A.AttrText.outlined (directives_of l.directives) (entries_of l.attributes)
