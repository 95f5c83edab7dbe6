use Rattle.std.proofs.Math.Nat.{le_refl}
use Rattle.irtext_grammar.proofs.Locations.Bounds.{within_enough}
use Rattle.irtext_grammar.proofs.Locations.LocationRests.{leaves_within}
use Rattle.pliron_text.proofs.laws.locations.bound_is_enough.Goals as goal

pub returns-clause-locations : goal.returns-clause-locations
returns-clause-locations g c attr m n text no_more h k = (within_enough attr no_more m n text h k).0

pub returns-clause-rows : goal.returns-clause-rows
returns-clause-rows g c attr m n text no_more h k = (within_enough attr no_more m n text h k).1

pub returns-clause-leaves_no_more : goal.returns-clause-leaves_no_more
returns-clause-leaves_no_more g c attr no_more = record { by = λ text. (leaves_within attr no_more _ _ text (le_refl _)).0 }
