use Rattle.std.proofs.Common.{◌≡◌, ◌+◌, ◌≤◌, length}
use Rattle.irtext_base.specs.FormatViews.{directives_of}
use Rattle.irtext_format_check.specs.Directives.{places_of}
use Rattle.irtext_base.specs.Format.{ascend}
use Rattle.irtext_format_check.specs.declared.format.parts.Part.TheVariants.{Region}
use Rattle.irtext_format_check.proofs.format.conditions.regions_ascend.Given as goal

abbrev pub invariant-loop-directive : goal.invariant-loop-directive
invariant-loop-directive l =
    (ascend l.next (places_of Region (directives_of l.left)) ≡ ascend 0 (places_of Region (directives_of l.directives)))
    × (l.next + length l.left ≤ length l.directives)

abbrev pub decreases-loop-directive : goal.decreases-loop-directive
decreases-loop-directive l = length l.left
