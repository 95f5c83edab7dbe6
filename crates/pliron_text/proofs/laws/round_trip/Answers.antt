use Rattle.std.specs.Prelude.{[], None, ◌++◌, length, refl}
use Rattle.std.proofs.Common.{ap, sym, subst, ◌∙◌}
use Rattle.irtext_base.specs.Own.{texts_of, unplaced, language}
use Rattle.irtext_grammar.specs.Spelling.Spell.{spelled}
use Rattle.irtext_grammar.specs.Graphs.Graph.{written}
use Rattle.irtext_base.specs.Format.{same_text}
use Rattle.irtext_grammar.specs.Names.Scopes.{no_scope, failures}
use Rattle.irtext_grammar.specs.Names.Script.{done}
use Rattle.irtext_grammar.specs.Names.Acts.{tree_script}
use Rattle.irtext_grammar.specs.Graphs.Build.{build}
use Rattle.irtext_grammar.specs.Graphs.Same.{resolved_root, SameShapes}
use Rattle.irtext_grammar.proofs.Grammar.BackTree as back
use Rattle.irtext_grammar.proofs.Grammar.Placed as placed
use Rattle.irtext_grammar.proofs.Names.Resolved.{tree_resolves}
use Rattle.irtext_grammar.proofs.Graphs.Match.{same_shapes}
use Rattle.irtext_grammar.proofs.Graphs.WrittenSpellable.{written_fine}
use Rattle.irtext_grammar.proofs.Graphs.BareScript.{resolves_bare}
use Rattle.irtext_grammar.proofs.Graphs.BareBuild.{shapes_bare}
use Rattle.pliron_text.proofs.laws.round_trip.Goals as goal

pub returns : goal.returns
returns g c C isolated first es x width n f w fit s keys closed h =
    let types = texts_of g.T.IrText.reading g.T.IrText.written in
    let owns = texts_of g.A.IrText.reading g.A.IrText.written in
    let l = unplaced types owns C.format_of in
    let t = written C None x in
    let fine = written_fine C isolated types owns x w fit s in
    let r = back.reads_back l g.met.T.IrText.lawful g.met.A.IrText.lawful g.met.A.AttrText.unreserved (λ p t. tt) width n t f fine h in
    let q = placed.placed (language types owns C.format_of) length (λ t. refl) t (spelled l width n t ++ f) r.0 r.1 in (
      q.0,
      r.0,
      q.1,
      r.2,
      q.2,
      resolves_bare isolated q.0 (ap (λ z. failures same_text no_scope (tree_script isolated z done)) q.2 ∙ tree_resolves C isolated x fit s closed keys),
      shapes_bare isolated first es (λ p. first 0) [] (resolved_root C isolated x) q.0 (subst (λ z. SameShapes (resolved_root C isolated x) (build isolated (λ p. first 0) [] z)) (sym q.2) (same_shapes C isolated (λ p. first 0) [] x fit s)),
    )
