use Rattle.std.proofs.Common.{◌∙◌}
use Rattle.irtext_parts.proofs.HexDigits.{digit_slice}
use Rattle.irtext_parts.proofs.hex.digit.Goals as goal

pub returns : goal.returns
returns c = c.range.ensures.value ∙ digit_slice c.args.number c.requires
