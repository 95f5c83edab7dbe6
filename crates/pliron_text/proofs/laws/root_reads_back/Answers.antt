use Rattle.std.specs.Prelude.{◌≡◌, ◌++◌}
use Rattle.irtext_base.specs.Own.{texts_of, unplaced}
use Rattle.irtext_base.specs.Text.{after_space}
use Rattle.irtext_grammar.specs.Spelling.Spell.{spelled}
use Rattle.irtext_grammar.proofs.Grammar.BackTree as back
use Rattle.pliron_text.proofs.RoundTrips.WithPlaces.{with_places}
use Rattle.pliron_text.proofs.laws.root_reads_back.Goals as goal

pub returns : goal.returns
returns g c formats width n t f w h =
    let l = unplaced (texts_of g.T.IrText.reading g.T.IrText.written) (texts_of g.A.IrText.reading g.A.IrText.written) formats in
    with_places (texts_of g.T.IrText.reading g.T.IrText.written) (texts_of g.A.IrText.reading g.A.IrText.written) formats t (spelled l width n t ++ f) (λ u. after_space u ≡ after_space f)
    (back.root_reads_back l g.met.T.IrText.lawful g.met.A.IrText.lawful g.met.A.AttrText.unreserved (λ p t. tt) width n t f w h)
