use Rattle.irtext_parts.specs.SpelledOf.{spelled_same}
use Rattle.irtext_parts.proofs.spelled.SpelledTryClone.try_clone.Goals as goal

pub returns : goal.returns
returns g c = spelled_same g.K.Spelling _ _ c.in_ok-text.ensures
