use Rattle.std.proofs.Common.{refl}
use Rattle.irtext_base.specs.Own.{texts_of, language}
use Rattle.irtext_grammar.proofs.Graphs.OwnEquality.{sound, reflexive}
use Rattle.irtext_grammar.proofs.ReadRoot.{closed_where_read}
use Rattle.irtext_grammar.proofs.TextBack.{held_whole}
use Rattle.pliron_text.proofs.laws.closed.read_root_is_closed.Goals as goal

pub returns-clause-closed : goal.returns-clause-closed
returns-clause-closed g c C isolated before tree entries source rest x r e s d f =
    closed_where_read (language (texts_of g.T.IrText.reading g.T.IrText.written) (texts_of g.A.IrText.reading g.A.IrText.written) C.format_of) (λ p q h. h) C (λ i. refl) isolated before tree entries x source rest r e s d f

pub returns-clause-again : goal.returns-clause-again
returns-clause-again g c C isolated before first tree entries source following x width n t rest held r e s position compared printed back =
    let types = texts_of g.T.IrText.reading g.T.IrText.written in
    let equal = sound g.A.PartialEq.eq g.met.A.IrText.decides compared in
    let itself = reflexive g.A.PartialEq.eq g.met.A.IrText.decides compared in
    let q = closed_where_read (language types (texts_of g.A.IrText.reading g.A.IrText.written) C.format_of) (λ p q h. h) C (λ i. refl) isolated before tree entries x source following r e s printed.kept.distinct printed.fits in
    held_whole types g.A.IrText.reading g.A.IrText.written g.met.T.IrText.lawful g.met.A.IrText.lawful g.met.A.AttrText.unreserved C equal itself isolated first position x width n t printed q.0 q.1 rest held back
