use Rattle.std.proofs.Common.{◌∙◌}
use Rattle.irtext_parts.specs.SpelledLaws.{encodes-spelled}
use Rattle.irtext_parts.proofs.spelled.Spelled.as_str.Goals as goal

pub returns : goal.returns
returns g c = c.as_str.ensures.bytes ∙ encodes-spelled g.K.Spelling g.met.K.Spelling.law c.args.self.now
