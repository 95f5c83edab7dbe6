use Rattle.irtext_parse_section.specs.Entries.{noted}
use Rattle.irtext_parse_section.proofs.LoopSteps.{noted_first}
use Rattle.irtext_parse_section.proofs.entries.first_noted.Goals as goal

pub returns : goal.returns
returns g c = noted_first (noted c.none_noted-entries.result) (noted c.entry_noted.new.entries) c.args.first c.none_noted-entries.ensures c.in_ok-entry_noted.ensures
