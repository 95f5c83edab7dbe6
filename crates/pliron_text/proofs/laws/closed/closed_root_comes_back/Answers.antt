use Rattle.irtext_base.specs.Own.{texts_of}
use Rattle.irtext_grammar.proofs.Graphs.OwnEquality.{sound, reflexive}
use Rattle.irtext_grammar.proofs.TextBack.{held_back, readable}
use Rattle.pliron_text.proofs.laws.closed.closed_root_comes_back.Goals as goal

pub returns-clause-builds : goal.returns-clause-builds
returns-clause-builds g c C isolated first x width n t rest held position compared printed root r =
    let types = texts_of g.T.IrText.reading g.T.IrText.written in
    let equal = sound g.A.PartialEq.eq g.met.A.IrText.decides compared in
    let itself = reflexive g.A.PartialEq.eq g.met.A.IrText.decides compared in
    held_back types g.A.IrText.reading g.A.IrText.written g.met.T.IrText.lawful g.met.A.IrText.lawful g.met.A.AttrText.unreserved C equal itself isolated first position x width n t printed root rest held r

pub returns-clause-readable : goal.returns-clause-readable
returns-clause-readable g c C isolated first x width n t position compared printed root =
    let types = texts_of g.T.IrText.reading g.T.IrText.written in
    let equal = sound g.A.PartialEq.eq g.met.A.IrText.decides compared in
    let itself = reflexive g.A.PartialEq.eq g.met.A.IrText.decides compared in
    readable types g.A.IrText.reading g.A.IrText.written g.met.T.IrText.lawful g.met.A.IrText.lawful g.met.A.AttrText.unreserved C equal itself isolated first position x width n t printed root
