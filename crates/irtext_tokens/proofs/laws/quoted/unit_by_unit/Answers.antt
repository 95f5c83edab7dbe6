use Rattle.irtext_tokens.proofs.QuotedUnits.{units_more}
use Rattle.irtext_tokens.proofs.laws.quoted.unit_by_unit.Goals as goal

pub returns : goal.returns
returns c = units_more
