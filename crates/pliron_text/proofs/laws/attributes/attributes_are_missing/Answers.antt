use Rattle.irtext_grammar.proofs.RoundTrips.AttrBack.{attr_missing}
use Rattle.pliron_text.proofs.laws.attributes.attributes_are_missing.Goals as goal

pub returns : goal.returns
returns g c = attr_missing g.A.IrText.reading g.A.IrText.written g.met.A.IrText.lawful g.met.A.AttrText.unreserved
