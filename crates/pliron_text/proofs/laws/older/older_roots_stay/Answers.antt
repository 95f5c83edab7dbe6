use Rattle.pliron_text.proofs.KeptRoots.{located_stays, there_stays}
use Rattle.pliron_text.proofs.Older.{nested_stays, held_stays, seen_stays, whole_stays}
use Rattle.pliron_text.proofs.laws.older.older_roots_stay.Goals as goal

pub returns-clause-nested : goal.returns-clause-nested
returns-clause-nested g c = nested_stays

pub returns-clause-held : goal.returns-clause-held
returns-clause-held g c = held_stays

pub returns-clause-whole : goal.returns-clause-whole
returns-clause-whole g c = whole_stays

pub returns-clause-seen : goal.returns-clause-seen
returns-clause-seen g c = λ p old new older. seen_stays p old new older _

pub returns-clause-there : goal.returns-clause-there
returns-clause-there g c = there_stays

pub returns-clause-located : goal.returns-clause-located
returns-clause-located g c = located_stays
