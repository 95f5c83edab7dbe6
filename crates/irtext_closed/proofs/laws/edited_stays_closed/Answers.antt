use Rattle.irtext_closed.proofs.StaysClosed.{edited_closed}
use Rattle.irtext_closed.proofs.laws.edited_stays_closed.Goals as goal

pub returns : goal.returns
returns g c = λ isolated old new p change o. edited_closed isolated old new p change o
