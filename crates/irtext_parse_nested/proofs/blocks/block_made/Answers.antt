use Rattle.std.proofs.Common.{◌∙◌, Some, sym, ap}
use Rattle.irtext_parse_nested.proofs.blocks.block_made.Goals as goal

pub returns-in-Ok-clause-places : goal.returns-in-Ok-clause-places
returns-in-Ok-clause-places g c = record { name = c.in-Some.name; named = c.name.ensures ∙ ap Some (sym c.in-Some.ensures); places = c.in-Ok.ensures.places }
