use Rattle.std.proofs.Common.{◌≡◌, drop}
use Rattle.irtext_base.specs.FormatViews.{directives_of}
use Rattle.irtext_format_check.specs.Directives.{first_of}
use Rattle.irtext_format_check.proofs.format.conditions.check_each.Given as goal

abbrev pub invariant-loop-condition : goal.invariant-loop-condition
invariant-loop-condition l = first_of (drop l.condition-index l.conditions) (directives_of l.directives) ≡ first_of l.conditions (directives_of l.directives)
