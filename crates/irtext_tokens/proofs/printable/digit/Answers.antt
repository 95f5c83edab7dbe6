use Rattle.std.proofs.Common.{◌∙◌}
use Rattle.irtext_tokens.proofs.QuotedText.{digit-slice}
use Rattle.irtext_tokens.proofs.printable.digit.Goals as goal

pub returns : goal.returns
returns c = c.range.ensures.value ∙ digit-slice c.args.number c.requires
