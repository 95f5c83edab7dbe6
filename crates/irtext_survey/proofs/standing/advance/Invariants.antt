use Rattle.std.proofs.Common.{length}
use Rattle.irtext_survey.proofs.Placing.{Comes}
use Rattle.irtext_survey.proofs.standing.advance.Given as goal

abbrev pub invariant-loop-at : goal.invariant-loop-at
invariant-loop-at l = Comes l.fn.stream.rest l.at l.here l.stream

abbrev pub decreases-loop-at : goal.decreases-loop-at
decreases-loop-at l = length l.stream.rest
