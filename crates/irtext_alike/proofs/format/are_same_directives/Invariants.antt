use Rattle.std.proofs.Common.{◌≡◌, ◌<◌, ℕ, slice_get}
use Rattle.irtext_base.specs.FormatViews.{directives_of}
use Rattle.irtext_alike.proofs.format.are_same_directives.Given as goal

abbrev pub invariant-loop-i : goal.invariant-loop-i
invariant-loop-i l = (j : ℕ) → j < l.i → slice_get (directives_of l.a) j ≡ slice_get (directives_of l.b) j
