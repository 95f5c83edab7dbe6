use Rattle.irtext_base.specs.Own.{language, texts_of}
use Rattle.irtext_grammar.proofs.Grammar.PartsOfFormats.{formed_read, each_accepted}
use Rattle.irtext_grammar.proofs.Graphs.Links.{bound_linked}
use Rattle.pliron_text.proofs.laws.uses_are_built.Goals as goal

pub returns : goal.returns
returns g c formats isolated first es t text rest accepted r u p =
    let l = language (texts_of g.T.IrText.reading g.T.IrText.written) (texts_of g.A.IrText.reading g.A.IrText.written) formats in
    bound_linked isolated first es t (formed_read l (λ p q h. h) t text rest (each_accepted l accepted t) r) u p
