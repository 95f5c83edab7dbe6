use Rattle.irtext_base.specs.Own.{texts_of}
use Rattle.irtext_grammar.specs.Graphs.Build.{build}
use Rattle.irtext_grammar.proofs.Graphs.Regained.{regained}
use Rattle.irtext_grammar.proofs.RoundTrips.WholeRoot.{comes_back}
use Rattle.irtext_grammar.proofs.Graphs.OwnEquality.{sound, reflexive}
use Rattle.pliron_text.proofs.laws.building.named_root_comes_back.Goals as goal

pub returns : goal.returns
returns g c location_at K first C isolated x width n position compared wordy fit small keys held closed numbers named =
    let types = texts_of g.T.IrText.reading g.T.IrText.written in
    let owns = texts_of g.A.IrText.reading g.A.IrText.written in
    let equal = sound g.A.PartialEq.eq g.met.A.IrText.decides compared in
    let itself = reflexive g.A.PartialEq.eq g.met.A.IrText.decides compared in
    let r = comes_back types owns g.met.T.IrText.lawful g.met.A.IrText.lawful g.met.A.AttrText.unreserved location_at K first position C equal itself isolated x width n wordy fit small keys held closed numbers in
    (r.0, r.1, r.2, r.3, r.4, r.5, regained C isolated K x (build isolated first r.1 r.0) named r.6)
