use Rattle.irtext_grammar.proofs.Causes.Found.{operation_cause, region_cause, section_cause}
use Rattle.pliron_text.proofs.laws.causes.causes_of_texts.Goals as goal

pub returns-clause-operation : goal.returns-clause-operation
returns-clause-operation g c dialects does inside text s t cause place e =
    operation_cause dialects g.T.IrText.reading g.A.IrText.reading g.met.T.IrText.sincere g.met.A.IrText.sincere does inside text s t cause place e

pub returns-clause-region : goal.returns-clause-region
returns-clause-region g c dialects does isolated text s t cause place e =
    region_cause dialects g.T.IrText.reading g.A.IrText.reading g.met.T.IrText.sincere g.met.A.IrText.sincere does isolated text s t cause place e

pub returns-clause-section : goal.returns-clause-section
returns-clause-section g c dialects marks rules text upto cause r =
    section_cause dialects g.T.IrText.reading g.A.IrText.reading g.met.T.IrText.sincere g.met.A.IrText.sincere marks rules text cause upto r
