use Rattle.irtext_closed.proofs.StaysClosed.{replaced_closed}
use Rattle.irtext_closed.proofs.laws.replaced_stays_closed.Goals as goal

pub returns : goal.returns
returns g c = λ isolated old new d e o. replaced_closed isolated old new d e o
