use Rattle.irtext_base.specs.Own.{texts_of}
use Rattle.irtext_grammar.proofs.RoundTrips.WholeRoot.{comes_back}
use Rattle.irtext_grammar.proofs.Graphs.OwnEquality.{sound, reflexive}
use Rattle.pliron_text.proofs.laws.building.text_comes_back.Goals as goal

pub returns : goal.returns
returns g c location_at K first C isolated x width n position compared wordy fit small keys held closed numbers =
    let types = texts_of g.T.IrText.reading g.T.IrText.written in
    let owns = texts_of g.A.IrText.reading g.A.IrText.written in
    let equal = sound g.A.PartialEq.eq g.met.A.IrText.decides compared in
    let itself = reflexive g.A.PartialEq.eq g.met.A.IrText.decides compared in
    comes_back types owns g.met.T.IrText.lawful g.met.A.IrText.lawful g.met.A.AttrText.unreserved location_at K first position C equal itself isolated x width n wordy fit small keys held closed numbers
