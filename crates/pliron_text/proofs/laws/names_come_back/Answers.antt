use Rattle.std.specs.Prelude.{[]}
use Rattle.std.proofs.Common.{ap, sym, subst, ◌∙◌}
use Rattle.irtext_base.specs.Format.{same_text}
use Rattle.irtext_grammar.specs.Names.Scopes.{no_scope, failures}
use Rattle.irtext_grammar.specs.Names.Script.{done}
use Rattle.irtext_grammar.specs.Names.Acts.{tree_script}
use Rattle.irtext_grammar.specs.Graphs.Build.{build}
use Rattle.irtext_grammar.specs.Graphs.Same.{resolved_root, SameShapes}
use Rattle.irtext_grammar.proofs.Names.Resolved.{tree_resolves}
use Rattle.irtext_grammar.proofs.Graphs.Match.{same_shapes}
use Rattle.irtext_grammar.proofs.Graphs.BareScript.{resolves_bare}
use Rattle.irtext_grammar.proofs.Graphs.BareBuild.{shapes_bare}
use Rattle.pliron_text.proofs.laws.names_come_back.Goals as goal

pub returns-clause-resolves : goal.returns-clause-resolves
returns-clause-resolves g c C isolated x t f s keys closed e =
    resolves_bare isolated t (ap (λ z. failures same_text no_scope (tree_script isolated z done)) e ∙ tree_resolves C isolated x f s closed keys)

pub returns-clause-shapes : goal.returns-clause-shapes
returns-clause-shapes g c C isolated first es x t f s e =
    shapes_bare isolated first es (λ p. first 0) [] (resolved_root C isolated x) t (subst (λ z. SameShapes (resolved_root C isolated x) (build isolated (λ p. first 0) [] z)) (sym e) (same_shapes C isolated (λ p. first 0) [] x f s))
