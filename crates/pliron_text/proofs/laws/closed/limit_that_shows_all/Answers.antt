use Rattle.irtext_base.specs.Own.{texts_of, unplaced}
use Rattle.pliron_text.proofs.Unlimited.{unlimited_shown, text_shown}
use Rattle.pliron_text.proofs.laws.closed.limit_that_shows_all.Goals as goal

pub returns-clause-unlimited : goal.returns-clause-unlimited
returns-clause-unlimited g c = unlimited_shown

pub returns-clause-same : goal.returns-clause-same
returns-clause-same g c = λ printing x n width limit shown.
    text_shown printing (unplaced (texts_of g.T.IrText.reading g.T.IrText.written) (texts_of g.A.IrText.reading g.A.IrText.written) printing.format_of) x n width limit shown
