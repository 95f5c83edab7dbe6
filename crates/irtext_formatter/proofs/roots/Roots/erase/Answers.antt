use Rattle.irtext_context.proofs.Kept.{rolled_back}
use Rattle.irtext_formatter.proofs.roots.Roots.erase.Goals as goal

pub returns-clause-back : goal.returns-clause-back
returns-clause-back g c = λ before can. rolled_back can.older can.kept c.take_back.ensures.back
