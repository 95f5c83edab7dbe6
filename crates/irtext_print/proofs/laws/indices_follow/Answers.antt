use Rattle.irtext_print.proofs.Sections.{indices_are, indices_without_gap}
use Rattle.irtext_print.proofs.laws.indices_follow.Goals as goal

pub returns-clause-kept : goal.returns-clause-kept
returns-clause-kept g c = λ C gs. indices_are C gs

pub returns-clause-without_gap : goal.returns-clause-without_gap
returns-clause-without_gap g c = λ C es. indices_without_gap C es
