use Rattle.std.proofs.Common.{refl}
use Rattle.irtext_base.specs.Own.{texts_of, language}
use Rattle.irtext_grammar.proofs.Joins.Attributes.{attribute_read, attribute-reads}
use Rattle.pliron_text.proofs.laws.attributes.attributes_are_the_trees.Goals as goal

pub returns-clause-read : goal.returns-clause-read
returns-clause-read g c = λ formats. attribute_read g.A.IrText.reading (language (texts_of g.T.IrText.reading g.T.IrText.written) (texts_of g.A.IrText.reading g.A.IrText.written) formats) (λ text. refl)

pub returns-clause-found : goal.returns-clause-found
returns-clause-found g c = λ formats. attribute-reads g.A.IrText.reading (language (texts_of g.T.IrText.reading g.T.IrText.written) (texts_of g.A.IrText.reading g.A.IrText.written) formats) (λ text. refl)
