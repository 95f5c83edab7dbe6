use Rattle.irtext_grammar.proofs.RoundTrips.AttrBack.{attr_back}
use Rattle.pliron_text.proofs.laws.attributes.attribute_comes_back.Goals as goal

pub returns : goal.returns
returns g c = attr_back g.A.IrText.reading g.A.IrText.written g.met.A.IrText.lawful g.met.A.AttrText.unreserved
