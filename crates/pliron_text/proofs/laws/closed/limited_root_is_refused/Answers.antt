use Rattle.irtext_base.specs.Own.{texts_of}
use Rattle.irtext_tokens.specs.AttrTexts.{attr_at}
use Rattle.irtext_grammar.proofs.Limited.{limited_refused}
use Rattle.pliron_text.proofs.laws.closed.limited_root_is_refused.Goals as goal

pub returns : goal.returns
returns g c C isolated x width n limit t u tree entries printed left a =
    limited_refused (texts_of g.T.IrText.reading g.T.IrText.written) (texts_of g.A.IrText.reading g.A.IrText.written) g.met.T.IrText.lawful g.met.A.IrText.lawful g.met.A.AttrText.unreserved (attr_at g.A.IrText.reading) C isolated x width n limit t u tree entries printed left a
