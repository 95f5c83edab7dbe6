use Rattle.irtext_syntax.specs.NumberLaws.{encodes-number}
use Rattle.irtext_syntax.proofs.number.NumberPart.write_text.Goals as goal

pub returns-clause-text : goal.returns-clause-text
returns-clause-text g c = rw (encodes-number g.N.FromStrRadix g.N.Integer-1.of g.met.N.FromStrRadix.narrow g.met.N.Integer-1.back c.args.self.now) c.write_number.ensures.text
