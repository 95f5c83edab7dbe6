use Rattle.irtext_base.specs.Own.{texts_of, unplaced}
use Rattle.irtext_print.proofs.Sections.{section_spelled, section_whole}
use Rattle.irtext_print.proofs.laws.section_is_its_entries.Goals as goal

pub returns-clause-spelled : goal.returns-clause-spelled
returns-clause-spelled g c = λ C formats first gs. section_spelled C (unplaced (texts_of g.T.IrText.reading g.T.IrText.written) (texts_of g.A.IrText.reading g.A.IrText.written) formats) first gs

pub returns-clause-whole : goal.returns-clause-whole
returns-clause-whole g c = λ C formats es. section_whole C (unplaced (texts_of g.T.IrText.reading g.T.IrText.written) (texts_of g.A.IrText.reading g.A.IrText.written) formats) es
