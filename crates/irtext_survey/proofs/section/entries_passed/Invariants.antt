use Rattle.std.proofs.Common.{length}
use Rattle.irtext_tokens.specs.AttrTexts.{attr_at}
use Rattle.irtext_survey.proofs.Passing.{EntriesPassed}
use Rattle.irtext_survey.proofs.section.entries_passed.Given as goal

-- entries of the text were passed
abbrev pub invariant-loop-stream : goal.invariant-loop-stream
invariant-loop-stream g l = EntriesPassed (attr_at g.A.IrText.reading) l.fn.stream l.stream

abbrev pub decreases-loop-stream : goal.decreases-loop-stream
decreases-loop-stream g l = length l.stream.rest
