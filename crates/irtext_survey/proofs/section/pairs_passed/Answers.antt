use Rattle.irtext_tokens.specs.AttrTexts.{attr_at}
use Rattle.irtext_tokens.proofs.Exits.{propagated}
use Rattle.irtext_survey.proofs.Passing.{no_bracket, no_pair, bracket_ends}
use Rattle.irtext_survey.proofs.section.pairs_passed.Goals as goal

pub returns-in_err-text_demanded : goal.returns-in_err-text_demanded
returns-in_err-text_demanded g c = rw (propagated c.from_residual.result c.from_residual.ensures.1) (no_bracket (attr_at g.A.IrText.reading) c.in_err-text_demanded.ensures)

pub returns-in_err-list_passed : goal.returns-in_err-list_passed
returns-in_err-list_passed g c =
    rw (propagated c.from_residual-in_err-list_passed.result c.from_residual-in_err-list_passed.ensures.1) (no_pair (attr_at g.A.IrText.reading) c.in_ok-text_demanded.ensures c.skip_white_space.ensures c.in_err-list_passed.ensures)

pub returns : goal.returns
returns g c =
    bracket_ends (attr_at g.A.IrText.reading) c.in_ok-text_demanded.ensures c.skip_white_space.ensures c.in_ok-list_passed.ensures c.text_demanded-2.result c.text_demanded-2.new.stream c.text_demanded-2.ensures
