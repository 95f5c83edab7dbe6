use Rattle.irtext_closed.proofs.StaysClosed.{erased_closed}
use Rattle.irtext_closed.proofs.laws.erased_stays_closed.Goals as goal

pub returns : goal.returns
returns g c = λ isolated old x o closed e apart nested. erased_closed isolated old c.args.graph.now x o closed e apart nested c.keeps_nesting.ensures.uses
