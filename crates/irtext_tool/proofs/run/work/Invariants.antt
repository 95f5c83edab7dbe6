-- The greatest status so far is one of the four.
use Rattle.std.proofs.Common.{◌≤◌}
use Rattle.irtext_tool.proofs.run.work.Given as goal

abbrev pub invariant-loop-path : goal.invariant-loop-path
invariant-loop-path g l = l.status ≤ 3
