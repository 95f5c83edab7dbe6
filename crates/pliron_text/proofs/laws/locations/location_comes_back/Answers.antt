use Rattle.std.proofs.Math.Nat.{le_refl}
use Rattle.irtext_grammar.proofs.Locations.GivesBack.{tight}
use Rattle.irtext_grammar.proofs.Locations.ComesBack.{left_space, left_tight, location_back}
use Rattle.pliron_text.proofs.laws.locations.location_comes_back.Goals as goal

pub returns-clause-reads : goal.returns-clause-reads
returns-clause-reads g c attr text_of l rest reads fits ends = location_back attr text_of l reads fits rest ends _ (le_refl _)

pub returns-clause-within : goal.returns-clause-within
returns-clause-within g c attr text_of l rest n reads fits ends small = location_back attr text_of l reads fits rest ends n small

pub returns-clause-leaves : goal.returns-clause-leaves
returns-clause-leaves g c l rest = left_space l rest

pub returns-clause-leaves_all : goal.returns-clause-leaves_all
returns-clause-leaves_all g c l rest e = left_tight l rest (tight rest e)
