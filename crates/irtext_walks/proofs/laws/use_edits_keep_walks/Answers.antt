use Rattle.irtext_walks.proofs.Kept.{bare_walks}
use Rattle.irtext_walks.proofs.laws.use_edits_keep_walks.Goals as goal

pub returns-clause-one : goal.returns-clause-one
returns-clause-one g c = λ old new u d e. bare_walks old new e.rest

pub returns-clause-all : goal.returns-clause-all
returns-clause-all g c = λ old new d x e. bare_walks old new e.rest
