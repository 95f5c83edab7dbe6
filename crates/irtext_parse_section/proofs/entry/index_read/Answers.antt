use Rattle.irtext_tokens.specs.Demanded.{index_at}
use Rattle.irtext_parse_locations.proofs.Plain.{gets_must}
use Rattle.irtext_parse_section.proofs.entry.index_read.Goals as goal

pub returns-in-Some : goal.returns-in-Some
returns-in-Some g c = gets_must index_at c.args.stream.now c.index_there.new.stream c.in-Some.index c.in-Some.ensures.0 c.in-Some.ensures.1
