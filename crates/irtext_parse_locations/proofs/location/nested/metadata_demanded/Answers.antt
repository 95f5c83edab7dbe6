use Rattle.std.proofs.Common.{sym, ◌∙◌}
use Rattle.irtext_parse_locations.proofs.location.nested.metadata_demanded.Goals as goal

pub returns : goal.returns
returns g c = record { answers = rw (sym c.next_is.ensures ∙ c.if-not-next_is.false) c.metadata_there.ensures.answers }
