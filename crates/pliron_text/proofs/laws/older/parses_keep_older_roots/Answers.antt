use Rattle.pliron_text.proofs.KeptRoots.{kept_by_accepted, kept_by_refused, kept_by_region}
use Rattle.pliron_text.proofs.laws.older.parses_keep_older_roots.Goals as goal

pub returns-clause-accepted : goal.returns-clause-accepted
returns-clause-accepted g c = λ op p old new live only. kept_by_accepted p old new live op only

pub returns-clause-refused : goal.returns-clause-refused
returns-clause-refused g c = λ p old new live all. kept_by_refused p old new live all

pub returns-clause-region : goal.returns-clause-region
returns-clause-region g c = λ op p r old new live only apart. kept_by_region p old new live op r only apart
