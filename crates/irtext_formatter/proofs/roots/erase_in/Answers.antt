use Rattle.irtext_formatter.proofs.Live.{erased_live}
use Rattle.irtext_formatter.proofs.roots.erase_in.Goals as goal

pub returns-clause-live : goal.returns-clause-live
returns-clause-live g c = erased_live _ _ _ c.erase_locations.ensures.erased c.requires.live
