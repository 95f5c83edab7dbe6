use Rattle.std.proofs.Common.{◌≡◌, ◌≤◌, ◌+◌}
use Rattle.irtext_survey.specs.Notes.{first_before, first_in_scope}
use Rattle.irtext_survey.proofs.notes.in_scope.Given as goal

-- the notes that are left give what all give
abbrev pub invariant-loop-left : goal.invariant-loop-left
invariant-loop-left g l = (l.left ≤ l.fn.index) × (l.inner + l.left ≤ l.fn.index) × (first_before l.mention l.left l.notes (l.inner, l.found) ≡ first_in_scope l.mention l.fn.index l.notes)

abbrev pub decreases-loop-left : goal.decreases-loop-left
decreases-loop-left g l = l.left
