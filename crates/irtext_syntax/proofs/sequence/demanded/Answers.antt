use Rattle.irtext_tokens.proofs.Steps.{alone, insisted}
use Rattle.irtext_syntax.proofs.sequence.demanded.Goals as goal

pub returns : goal.returns
returns g c = insisted alone c.read-answer.ensures c.committed.ensures
