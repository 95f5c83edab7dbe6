use Rattle.std.proofs.Common.{sym}
use Rattle.irtext_parts.specs.SpelledOf.{spelled_found}
use Rattle.irtext_parts.proofs.spelled.Spelled.new.Goals as goal

pub returns : goal.returns
returns g c = sym (spelled_found g.K.Spelling _)
