use Rattle.irtext_tokens.specs.AttrTexts.{attr_at}
use Rattle.irtext_survey.proofs.Passing.{section_there, section_not_there}
use Rattle.irtext_survey.proofs.section.section_skipped.Goals as goal

pub returns-in-Ok : goal.returns-in-Ok
returns-in-Ok g c = section_there (attr_at g.A.IrText.reading) c.in-Ok.ensures

pub returns-in-Ok-unless_memory : goal.returns-in-Ok-unless_memory
returns-in-Ok-unless_memory g c = section_not_there (attr_at g.A.IrText.reading) c.requires.fine c.in-Err.ensures c.in-Ok-unless_memory.ensures
