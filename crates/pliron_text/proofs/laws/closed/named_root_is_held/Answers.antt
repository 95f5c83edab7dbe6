use Rattle.irtext_base.specs.Own.{texts_of}
use Rattle.irtext_grammar.proofs.Graphs.OwnEquality.{sound, reflexive}
use Rattle.irtext_grammar.proofs.TextBack.{held_whole}
use Rattle.pliron_text.proofs.laws.closed.named_root_is_held.Goals as goal

pub returns : goal.returns
returns g c C isolated first x width n t rest held position compared printed root named r =
    let types = texts_of g.T.IrText.reading g.T.IrText.written in
    let equal = sound g.A.PartialEq.eq g.met.A.IrText.decides compared in
    let itself = reflexive g.A.PartialEq.eq g.met.A.IrText.decides compared in
    held_whole types g.A.IrText.reading g.A.IrText.written g.met.T.IrText.lawful g.met.A.IrText.lawful g.met.A.AttrText.unreserved C equal itself isolated first position x width n t printed root named rest held r
