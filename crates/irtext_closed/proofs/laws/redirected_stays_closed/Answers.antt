use Rattle.irtext_closed.proofs.StaysClosed.{redirected_closed}
use Rattle.irtext_closed.proofs.laws.redirected_stays_closed.Goals as goal

pub returns : goal.returns
returns g c = λ isolated old new u e o. redirected_closed isolated old new u e o
