use Rattle.irtext_syntax.specs.RangeLaws.{encodes-ranged}
use Rattle.irtext_syntax.proofs.range.RangedPart.write_text.Goals as goal

pub returns-clause-text : goal.returns-clause-text
returns-clause-text g c = rw (encodes-ranged g.R.Range c.args.self.now) c.write_decimal.ensures.text
