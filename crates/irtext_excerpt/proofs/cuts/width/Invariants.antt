use Rattle.std.proofs.Common.{◌≡◌, ◌*◌, ◌≤◌, length}
use Rattle.irtext_excerpt.specs.Excerpt.{columns, shown}
use Rattle.irtext_excerpt.proofs.cuts.width.Given as goal

-- the columns of the characters so far
abbrev pub invariant-loop-c : goal.invariant-loop-c
invariant-loop-c l = (l.width ≡ columns (shown l.yielded)) × (l.width ≤ 6 * length l.yielded)
