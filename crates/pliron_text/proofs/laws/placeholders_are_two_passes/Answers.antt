use Rattle.irtext_grammar.specs.Names.Acts.{root_script}
use Rattle.irtext_grammar.proofs.Names.Reading.{reads_bound}
use Rattle.pliron_text.proofs.laws.placeholders_are_two_passes.Goals as goal

pub returns : goal.returns
returns g c isolated t es = reads_bound (root_script isolated t es)
