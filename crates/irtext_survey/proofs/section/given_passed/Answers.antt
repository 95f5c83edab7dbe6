use Rattle.irtext_tokens.specs.AttrTexts.{attr_at}
use Rattle.irtext_tokens.proofs.Exits.{propagated}
use Rattle.irtext_survey.proofs.Passing.{no_location, given_ends}
use Rattle.irtext_survey.proofs.section.given_passed.Goals as goal

pub returns-in_err-entry_location : goal.returns-in_err-entry_location
returns-in_err-entry_location g c = rw (propagated c.from_residual.result c.from_residual.ensures.1) (no_location (attr_at g.A.IrText.reading) c.in_err-entry_location.ensures.read.read)

pub returns : goal.returns
returns g c = given_ends (attr_at g.A.IrText.reading) c.in_ok-entry_location.ensures.read.read c.pairs_passed.result c.pairs_passed.new.stream c.pairs_passed.ensures
