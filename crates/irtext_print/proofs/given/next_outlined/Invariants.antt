use Rattle.std.proofs.Common.{◌≡◌}
use Rattle.irtext_print.specs.Given.{outlined_left}
use Rattle.irtext_print.proofs.given.next_outlined.Given as goal

-- what is given of the entries that are left is what was given of all
abbrev pub invariant-loop-key : goal.invariant-loop-key
invariant-loop-key g l = record {
  can : (goal.iterator-loop-key g).can_next l.entries;
  ends : (goal.iterator-loop-key g).is_finite l.entries;
  same : outlined_left g.A.AttrText.outlined l.fn.entries ≡ outlined_left g.A.AttrText.outlined l.entries;
}
