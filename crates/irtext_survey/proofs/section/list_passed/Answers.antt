use Rattle.irtext_tokens.specs.AttrTexts.{attr_at}
use Rattle.irtext_survey.specs.Section.{pair_in}
use Rattle.irtext_survey.proofs.Passing.{passes_list, passes_bad, passes_none}
use Rattle.irtext_survey.proofs.section.list_passed.Goals as goal

pub returns-in-Ok : goal.returns-in-Ok
returns-in-Ok g c = passes_list (pair_in (attr_at g.A.IrText.reading)) c.in-Ok.ensures c.skip_white_space.ensures c.more_passed.ensures

pub returns-then-fault : goal.returns-then-fault
returns-then-fault g c = passes_bad (pair_in (attr_at g.A.IrText.reading)) c.if-fault.true c.in-Err.ensures

pub returns-else-fault : goal.returns-else-fault
returns-else-fault g c = passes_none (pair_in (attr_at g.A.IrText.reading)) c.if-fault.false c.in-Err.ensures
