use Rattle.std.proofs.Common.{sym}
use Rattle.irtext_syntax.specs.RangeOf.{ranged_found}
use Rattle.irtext_syntax.proofs.range.Ranged.new.Goals as goal

pub returns : goal.returns
returns g c = sym (ranged_found g.R.Range _)
