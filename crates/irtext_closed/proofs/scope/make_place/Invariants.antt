use Rattle.std.proofs.Common.{◌≡◌, ◌-◌, ℕ, suc, length, slice_get, Some}
use Rattle.irtext_closed.specs.declared.scope.Noted.{Noted}
use Rattle.irtext_closed.proofs.scope.make_place.Given as goal

-- what is noted was noted before
abbrev pub invariant-loop-noted : goal.invariant-loop-noted
invariant-loop-noted l = record {
  kept : (i : ℕ) (n : Noted) → slice_get l.noted.items i ≡ Some (Some n) → slice_get l.initial.noted.items i ≡ Some (Some n);
}

abbrev pub decreases-loop-noted : goal.decreases-loop-noted
decreases-loop-noted l = suc l.at - length l.noted.items
