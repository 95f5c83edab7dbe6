use Rattle.std.proofs.Common.{length, string_bytes}
use Rattle.irtext_stream.specs.NotationFaults.{whole}
use Rattle.irtext_stream.proofs.NotationSteps.{Spelled}
use Rattle.irtext_stream.proofs.notation.pieces.letters.Given as goal

abbrev pub invariant-loop-c : goal.invariant-loop-c
invariant-loop-c l = Spelled l.fn.stream.rest (whole l.fn.stream) (string_bytes l.text) l.stream

abbrev pub decreases-loop-c : goal.decreases-loop-c
decreases-loop-c l = length l.stream.rest
