use Rattle.irtext_base.specs.Weights.{left_of}
use Rattle.irtext_base.proofs.location.release.release.Given as goal

abbrev pub decreases-loop-location : goal.decreases-loop-location
decreases-loop-location g l = left_of l.next l.rest
