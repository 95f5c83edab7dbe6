use Rattle.std.proofs.Common.{◌-◌, length}
use Rattle.irtext_stream.specs.Classes.{has}
use Rattle.irtext_stream.proofs.Slices.{Ahead}
use Rattle.irtext_stream.proofs.scan.end_of_run.Given as goal

abbrev pub invariant-loop-b : goal.invariant-loop-b
invariant-loop-b l = Ahead l.text l.from (has l.class) l.at

abbrev pub decreases-loop-b : goal.decreases-loop-b
decreases-loop-b l = length l.text - l.at
