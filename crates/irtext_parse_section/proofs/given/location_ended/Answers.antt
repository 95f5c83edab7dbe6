use Rattle.irtext_parse_locations.proofs.Plain.{gets_must}
use Rattle.irtext_parse_section.specs.Entries.{location_end_at}
use Rattle.irtext_parse_section.proofs.PlainEntries.{end_comes}
use Rattle.irtext_parse_section.proofs.given.location_ended.Goals as goal

pub returns-then-spaced_there : goal.returns-then-spaced_there
returns-then-spaced_there g c =
    let new = c.spaced_there.new.stream in
    gets_must location_end_at c.args.stream.now new tt c.if-spaced_there.ensures.fine (end_comes c.args.stream.now new c.if-spaced_there.ensures)
