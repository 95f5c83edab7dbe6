use Rattle.irtext_parse_locations.specs.Plain.{after_source_at}
use Rattle.irtext_parse_locations.proofs.Plain.{gets_must}
use Rattle.irtext_parse_locations.proofs.location.read.position_after.Goals as goal

pub returns-in-Some : goal.returns-in-Some
returns-in-Some g c = gets_must after_source_at c.args.stream.now c.position_there.new.stream c.in-Some.position c.in-Some.ensures.0 c.in-Some.ensures.1
