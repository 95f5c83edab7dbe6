use Rattle.std.proofs.Common.{codes}
use Rattle.irtext_tokens.specs.Demanded.{spaced_at}
use Rattle.irtext_parse_locations.proofs.Plain.{gets_must}
use Rattle.irtext_parse_section.proofs.PlainEntries.{equals_comes}
use Rattle.irtext_parse_section.proofs.entry.equals_read.Goals as goal

pub returns-then-spaced_there : goal.returns-then-spaced_there
returns-then-spaced_there g c =
    let new = c.spaced_there.new.stream in
    gets_must (spaced_at (codes "=")) c.args.stream.now new tt c.if-spaced_there.ensures.fine (equals_comes c.args.stream.now new c.if-spaced_there.ensures)
