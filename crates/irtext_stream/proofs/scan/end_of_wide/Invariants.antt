use Rattle.std.proofs.Common.{◌-◌, length}
use Rattle.irtext_stream.specs.Classes.{has}
use Rattle.irtext_stream.proofs.Slices.{Ahead}
use Rattle.irtext_stream.proofs.scan.end_of_wide.Given as goal

abbrev pub invariant-loop-class : goal.invariant-loop-class
invariant-loop-class l = Ahead l.text l.from (has l.class) l.at

abbrev pub decreases-loop-class : goal.decreases-loop-class
decreases-loop-class l = length l.text - l.at
