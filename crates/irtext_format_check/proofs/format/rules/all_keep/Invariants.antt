use Rattle.std.proofs.Common.{◌≡◌, length}
use Rattle.irtext_base.specs.FormatViews.{directives_of}
use Rattle.irtext_format_check.specs.Directives.{all_keep}
use Rattle.irtext_format_check.proofs.format.rules.all_keep.Given as goal

abbrev pub invariant-loop-directive : goal.invariant-loop-directive
invariant-loop-directive l = all_keep l.rule (directives_of l.left) ≡ all_keep l.rule (directives_of l.directives)

abbrev pub decreases-loop-directive : goal.decreases-loop-directive
decreases-loop-directive l = length l.left
