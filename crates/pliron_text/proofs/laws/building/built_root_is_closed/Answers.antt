use Rattle.irtext_base.specs.Own.{language, texts_of}
use Rattle.irtext_grammar.proofs.Graphs.BuiltClosed.{built_closed}
use Rattle.pliron_text.proofs.laws.building.built_root_is_closed.Goals as goal

pub returns : goal.returns
returns g c first C isolated t es x source rest accepted r e s d =
    let l = language (texts_of g.T.IrText.reading g.T.IrText.written) (texts_of g.A.IrText.reading g.A.IrText.written) C.format_of in
    built_closed l (λ p q h. h) C isolated first t es x source rest accepted r e s d
