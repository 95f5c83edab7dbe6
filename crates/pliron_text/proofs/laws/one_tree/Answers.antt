use Rattle.std.proofs.Common.{sym, ◌∙◌}
use Rattle.irtext_base.specs.Own.{texts_of, language}
use Rattle.irtext_grammar.proofs.Grammar.Unique as unique
use Rattle.pliron_text.proofs.laws.one_tree.Goals as goal

pub returns : goal.returns
returns g c formats x y t u v a b = unique.one_tree (language (texts_of g.T.IrText.reading g.T.IrText.written) (texts_of g.A.IrText.reading g.A.IrText.written) formats) g.met.T.IrText.lawful g.met.A.IrText.lawful (λ p q t e f. e ∙ sym f) (λ t u e. absurd e) x y t u v a b
