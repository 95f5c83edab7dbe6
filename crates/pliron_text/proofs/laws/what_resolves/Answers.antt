use Rattle.irtext_base.specs.Own.{texts_of, language}
use Rattle.irtext_grammar.proofs.Grammar.WholeTree.{whole}
use Rattle.irtext_grammar.proofs.Names.ResolvedRoot.{resolves, not_refused}
use Rattle.pliron_text.proofs.laws.what_resolves.Goals as goal

pub returns-clause-is_needed : goal.returns-clause-is_needed
returns-clause-is_needed g c formats isolated t es source rest a e =
    resolves isolated t es (whole (language (texts_of g.T.IrText.reading g.T.IrText.written) (texts_of g.A.IrText.reading g.A.IrText.written) formats) (λ t u k. k) t source rest a) e

pub returns-clause-is_enough : goal.returns-clause-is_enough
returns-clause-is_enough g c formats isolated t es source rest a r =
    not_refused isolated t es (whole (language (texts_of g.T.IrText.reading g.T.IrText.written) (texts_of g.A.IrText.reading g.A.IrText.written) formats) (λ t u k. k) t source rest a) r
