use Rattle.std.proofs.Common.{◌≡◌, drop}
use Rattle.irtext_base.specs.FormatViews.{directives_of}
use Rattle.irtext_print_ops.specs.Fits.{counted_on, places_of}
use Rattle.irtext_print_ops.proofs.Counting.{AtMost}
use Rattle.irtext_print_ops.proofs.fits.places_of.Given as goal

-- what was counted, and the directives that are left, are what is counted of all; and no more were counted than were passed
abbrev pub invariant-loop-directive : goal.invariant-loop-directive
invariant-loop-directive l = record {
  all : counted_on l.places (directives_of (drop l.directive-index l.directives)) ≡ places_of (directives_of l.directives);
  few : AtMost l.directive-index l.places;
}
