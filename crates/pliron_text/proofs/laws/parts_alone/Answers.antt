use Rattle.irtext_grammar.proofs.Names.Reading.{reads_bound}
use Rattle.pliron_text.proofs.laws.parts_alone.Goals as goal

pub returns : goal.returns
returns c = reads_bound
