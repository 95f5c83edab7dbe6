use Rattle.irtext_closed.proofs.StaysClosed.{inserted_closed}
use Rattle.irtext_closed.proofs.laws.inserted_stays_closed.Goals as goal

pub returns : goal.returns
returns g c = λ isolated old new k c i p. inserted_closed isolated old new k c i p
