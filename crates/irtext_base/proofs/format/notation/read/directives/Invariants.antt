use Rattle.std.proofs.Common.{length}
use Rattle.irtext_base.specs.FormatViews.{directives_of}
use Rattle.irtext_stream.specs.NotationFaults.{whole}
use Rattle.irtext_base.proofs.NotationDirectives.{Listed}
use Rattle.irtext_base.proofs.format.notation.read.directives.Given as goal

abbrev pub invariant-loop-found : goal.invariant-loop-found
invariant-loop-found l = Listed l.fn.stream.rest (whole l.fn.stream) (directives_of l.found.items) l.stream

abbrev pub decreases-loop-found : goal.decreases-loop-found
decreases-loop-found l = length l.stream.rest
