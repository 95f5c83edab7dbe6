use Rattle.irtext_grammar.proofs.Exact.Attributes.{lawful_needs_word}
use Rattle.irtext_grammar.proofs.Knot.Whole as whole
use Rattle.pliron_text.proofs.laws.nested.nested_text_is_a_tree.Goals as goal

pub returns-clause-read : goal.returns-clause-read
returns-clause-read g c dialects does text rest s t accepted e =
    whole.tree_read g.T.IrText.reading g.T.IrText.written g.A.IrText.reading g.A.IrText.written dialects g.met.T.IrText.sincere.reads g.met.A.IrText.sincere.reads does accepted text s t rest e

pub returns-clause-found : goal.returns-clause-found
returns-clause-found g c dialects does x text rest s r =
    whole.tree_found g.T.IrText.reading g.T.IrText.written g.A.IrText.reading g.A.IrText.written dialects g.met.T.IrText.sincere.reads g.met.A.IrText.sincere.reads does (lawful_needs_word g.A.IrText.reading g.A.IrText.written g.met.A.IrText.lawful) x text rest s r

pub returns-clause-tested : goal.returns-clause-tested
returns-clause-tested g c dialects does text rest s t accepted e =
    whole.tree_comes g.T.IrText.reading g.T.IrText.written g.A.IrText.reading g.A.IrText.written dialects g.met.T.IrText.sincere.reads g.met.A.IrText.sincere.reads does (lawful_needs_word g.A.IrText.reading g.A.IrText.written g.met.A.IrText.lawful) accepted text s t rest e
