use Rattle.irtext_tokens.specs.AttrTexts.{attr_at}
use Rattle.irtext_survey.proofs.Passing.{pair_there, pair_missed}
use Rattle.irtext_survey.proofs.section.pair_passed.Goals as goal

pub returns-in-Ok : goal.returns-in-Ok
returns-in-Ok g c = pair_there (attr_at g.A.IrText.reading) c.in-Ok.ensures

pub returns-in-Err : goal.returns-in-Err
returns-in-Err g c = pair_missed (attr_at g.A.IrText.reading) c.in-Err.ensures
