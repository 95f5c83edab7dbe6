use Rattle.irtext_tokens.proofs.ListSteps.{nothing_encoded}
use Rattle.irtext_tokens.proofs.irfmt.parsers.lists.is_still_at.Goals as goal

pub returns : goal.returns
returns g c = λ passed taken same positioned. nothing_encoded taken c.text_since.result.now c.is_empty.result (c.text_since.ensures passed taken same positioned) c.is_empty.ensures
