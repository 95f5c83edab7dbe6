use Rattle.irtext_base.specs.Own.{language, texts_of}
use Rattle.irtext_grammar.specs.Graphs.Build.{build}
use Rattle.irtext_grammar.proofs.Graphs.BuiltClosed.{built_closed}
use Rattle.irtext_grammar.proofs.Graphs.Regained.{regained}
use Rattle.irtext_grammar.proofs.RoundTrips.WholeRoot.{comes_back}
use Rattle.irtext_grammar.proofs.Graphs.OwnEquality.{sound, reflexive}
use Rattle.pliron_text.proofs.laws.building.read_root_comes_back.Goals as goal

pub returns : goal.returns
returns g c location_at K before first C isolated t es x source rest width n position compared accepted r e s d wordy fit small held numbers =
    let types = texts_of g.T.IrText.reading g.T.IrText.written in
    let owns = texts_of g.A.IrText.reading g.A.IrText.written in
    let equal = sound g.A.PartialEq.eq g.met.A.IrText.decides compared in
    let itself = reflexive g.A.PartialEq.eq g.met.A.IrText.decides compared in
    let q = built_closed (language types owns C.format_of) (λ p q h. h) C isolated before t es x source rest accepted r e s d in
    let b = comes_back types owns g.met.T.IrText.lawful g.met.A.IrText.lawful g.met.A.AttrText.unreserved location_at K first position C equal itself isolated x width n wordy fit small q.1 held q.0 numbers in
    (b.0, b.1, b.2, b.3, b.4, b.5, regained C isolated K x (build isolated first b.1 b.0) q.2 b.6)
