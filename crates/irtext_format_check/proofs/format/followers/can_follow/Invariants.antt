use Rattle.std.proofs.Common.{◌≡◌, ◌==◌, length}
use Rattle.irtext_base.specs.FormatViews.{directives_of}
use Rattle.irtext_base.specs.Format.{has, followers}
use Rattle.irtext_format_check.proofs.format.followers.can_follow.Given as goal

abbrev pub invariant-loop-directive : goal.invariant-loop-directive
invariant-loop-directive l = has ◌==◌ l.character (followers (directives_of l.left)) ≡ has ◌==◌ l.character (followers (directives_of l.directives))

abbrev pub decreases-loop-directive : goal.decreases-loop-directive
decreases-loop-directive l = length l.left
