use Rattle.std.proofs.Common.{sym, ◌∙◌}
use Rattle.irtext_tokens.specs.AttrTexts.{attr_at}
use Rattle.irtext_tokens.proofs.Exits.{propagated}
use Rattle.irtext_survey.proofs.Passing.{no_head, item_ends, once_ends}
use Rattle.irtext_survey.proofs.section.entry_passed.Goals as goal

pub returns-in_err-index_parse : goal.returns-in_err-index_parse
returns-in_err-index_parse g c = rw (propagated c.from_residual.result c.from_residual.ensures.1) (no_head (attr_at g.A.IrText.reading) c.in_err-index_parse.ensures.read.read)

pub returns-then-begins_given : goal.returns-then-begins_given
returns-then-begins_given g c =
    item_ends (attr_at g.A.IrText.reading) c.in_ok-index_parse.ensures.read.read (sym c.begins_given.ensures ∙ c.if-begins_given.true) c.given_passed.result c.given_passed.new.stream c.given_passed.ensures

pub returns : goal.returns
returns g c =
    once_ends (attr_at g.A.IrText.reading) c.in_ok-index_parse.ensures.read.read (sym c.begins_given.ensures ∙ c.if-begins_given.false) c.attribute_passed.result c.attribute_passed.new.stream c.attribute_passed.ensures
