use Rattle.std.proofs.Common.{length}
use Rattle.irtext_base.specs.Text.{Text}
use Rattle.irtext_base.proofs.Along.{Along}
use Rattle.irtext_parts.proofs.spelling.skip_spelled.Given as goal

abbrev pub invariant-loop-c : goal.invariant-loop-c
invariant-loop-c g l = (taken : Text) × Along (λ s. s) (λ s v. v) g.K.Spelling.rules.later l.fn.stream l.stream taken

abbrev pub decreases-loop-c : goal.decreases-loop-c
decreases-loop-c g l = length l.stream.rest
