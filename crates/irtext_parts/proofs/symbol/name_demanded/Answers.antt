use Rattle.irtext_tokens.proofs.Steps.{alone, insisted}
use Rattle.irtext_parts.proofs.symbol.name_demanded.Goals as goal

pub returns : goal.returns
returns g c = insisted alone c.name_parse-answer.ensures c.committed.ensures
