use Rattle.std.proofs.Common.{refl}
use Rattle.irtext_tokens.specs.AttrTexts.{attr_at}
use Rattle.irtext_grammar.specs.Contexts.Held.{whole}
use Rattle.irtext_survey.specs.Notes.{noted_in}
use Rattle.irtext_survey.proofs.NotedThere.{noted_stands}
use Rattle.irtext_survey.proofs.Telling.{definition_stands}
use Rattle.irtext_survey.proofs.laws.a_found_definition_is_the_name.Goals as goal

pub returns : goal.returns
returns g c dialects name v second found h =
    definition_stands (whole v) name (noted_in dialects g.T.IrText.reading (attr_at g.A.IrText.reading) name v.rest).notes
    (noted_stands (whole v) name g.T.IrText.reading g.T.IrText.written g.A.IrText.reading g.A.IrText.written dialects g.met.T.IrText.sincere.reads g.met.A.IrText.sincere.reads v.rest (record { before = v.passed; same = refl }))
    second found h
