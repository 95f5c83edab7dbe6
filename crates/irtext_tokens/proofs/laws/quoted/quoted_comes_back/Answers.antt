use Rattle.irtext_tokens.proofs.QuotedBack.{quoted_back}
use Rattle.irtext_tokens.proofs.laws.quoted.quoted_comes_back.Goals as goal

pub returns : goal.returns
returns c = quoted_back
