use Rattle.std.proofs.Common.{sym, ◌∙◌}
use Rattle.irtext_parse_locations.proofs.SetBack.{earlier, restored}
use Rattle.irtext_parse_section.proofs.PlainEntries.{index_after}
use Rattle.irtext_parse_section.proofs.entry.index_there.Goals as goal

pub returns-in-Some : goal.returns-in-Some
returns-in-Some c = (sym c.has_failed.ensures ∙ c.if-has_failed.false, index_after c.args.stream.now c.digits_after.new.stream c.in-Some.index c.in-Some.ensures)

pub reset-requires : goal.reset-requires
reset-requires c = earlier c.position-place.result c.args.stream.now c.digits_after.new.stream c.in-None.ensures c.position-place.ensures

pub returns-in-None : goal.returns-in-None
returns-in-None c = restored c.position-place.result c.args.stream.now c.digits_after.new.stream c.in-None.ensures c.position-place.ensures c.reset.new.self c.reset.ensures
