use Rattle.std.proofs.Common.{◌≡◌, drop}
use Rattle.irtext_base.specs.FormatViews.{directives_of}
use Rattle.irtext_grammar.specs.Contexts.Held.{entries_of}
use Rattle.irtext_print.specs.Printers.FitFaults.{missing_key}
use Rattle.irtext_print.proofs.ir.print.fits.missing_key.Given as goal

-- the first key that is missing is one of those that are left
abbrev pub invariant-loop-directive : goal.invariant-loop-directive
invariant-loop-directive g l = missing_key (entries_of l.attributes) (directives_of (drop l.directive-index l.directives)) ≡ missing_key (entries_of l.attributes) (directives_of l.directives)
