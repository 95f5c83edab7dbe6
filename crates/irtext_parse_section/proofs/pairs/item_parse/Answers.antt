use Rattle.std.proofs.Common.{[], sym, ◌∙◌}
use Rattle.irtext_tokens.specs.AttrTexts.{attr_at}
use Rattle.irtext_tokens.proofs.Exits.{propagated}
use Rattle.irtext_tokens.proofs.Steps.{alone}
use Rattle.irtext_grammar.specs.Grammar.Section.{direct}
use Rattle.irtext_grammar.specs.Grammar.Tree.{ident}
use Rattle.irtext_parse_pieces.proofs.Meanings.{must_fail}
use Rattle.irtext_parse_section.proofs.PairSteps.{reference_there, reference_refused, attribute_there, attribute_refused}
use Rattle.irtext_parse_section.proofs.pairs.item_parse.Goals as goal

pub returns-then-has_failed : goal.returns-then-has_failed
returns-then-has_failed g c = must_fail alone (direct (ident [])) (sym c.has_failed.ensures ∙ c.if-has_failed.true) c.refuse.ensures

pub returns-in_err-index : goal.returns-in_err-index
returns-in_err-index g c = rw (propagated c.from_residual.result c.from_residual.ensures.1) (reference_refused (attr_at g.A.IrText.reading) (direct (ident [])) (sym c.next_is.ensures ∙ c.if-next_is.true) c.in_err-index.ensures)

pub returns-then-next_is : goal.returns-then-next_is
returns-then-next_is g c = reference_there (attr_at g.A.IrText.reading) (record { index = c.in_ok-index.index; at = c.position-at.result }) (sym c.next_is.ensures ∙ c.if-next_is.true) c.in_ok-index.ensures c.position-at.ensures

pub returns-in_err-attr : goal.returns-in_err-attr
returns-in_err-attr g c = rw (propagated c.from_residual-in_err-attr.result c.from_residual-in_err-attr.ensures.1) (attribute_refused (attr_at g.A.IrText.reading) (direct (ident [])) (sym c.next_is.ensures ∙ c.if-next_is.false) c.in_err-attr.ensures)

pub returns : goal.returns
returns g c = attribute_there (attr_at g.A.IrText.reading) c.in_ok-attr.attr (sym c.next_is.ensures ∙ c.if-next_is.false) c.in_ok-attr.ensures
