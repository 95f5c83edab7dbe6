use Rattle.std.specs.Prelude.{[]}
use Rattle.std.proofs.Common.{sym, subst}
use Rattle.irtext_base.specs.Own.{texts_of}
use Rattle.irtext_grammar.specs.Graphs.Build.{build}
use Rattle.irtext_grammar.specs.Graphs.Same.{resolved_root, SameShapes}
use Rattle.irtext_grammar.proofs.Graphs.BareBuild.{shapes_bare}
use Rattle.irtext_grammar.proofs.Graphs.Match.{same_shapes}
use Rattle.irtext_grammar.proofs.RoundTrips.RootResolves.{root_resolves, text_back}
use Rattle.irtext_grammar.proofs.Sections.Content.{contents_back}
use Rattle.irtext_grammar.proofs.Graphs.OwnEquality.{sound, reflexive}
use Rattle.pliron_text.proofs.laws.section.section_comes_back.Goals as goal

pub returns : goal.returns
returns g c location_at K first C isolated x width n compared wordy fit small keys held closed numbers =
    let types = texts_of g.T.IrText.reading g.T.IrText.written in
    let owns = texts_of g.A.IrText.reading g.A.IrText.written in
    let equal = sound g.A.PartialEq.eq g.met.A.IrText.decides compared in
    let itself = reflexive g.A.PartialEq.eq g.met.A.IrText.decides compared in
    let r = text_back types owns g.met.T.IrText.lawful g.met.A.IrText.lawful g.met.A.AttrText.unreserved location_at K C equal itself isolated x width n wordy fit small held numbers in (
      r.0,
      r.1,
      r.2,
      r.3,
      r.4,
      r.5,
      root_resolves C equal itself isolated x wordy fit small keys closed K.text r.0 r.1 r.4 r.5,
      contents_back C equal itself K.text x r.0 r.1 r.4 r.5,
      shapes_bare isolated first r.1 (λ p. first 0) [] (resolved_root C isolated x) r.0 (subst (λ z. SameShapes (resolved_root C isolated x) (build isolated (λ p. first 0) [] z)) (sym r.4) (same_shapes C isolated (λ p. first 0) [] x fit small)),
    )
