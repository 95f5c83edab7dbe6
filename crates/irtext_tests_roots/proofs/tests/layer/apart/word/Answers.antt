use Rattle.std.proofs.Common.{ap}
use Rattle.std.specs.Str.{chars}
use Rattle.irtext_base.specs.Format.{word}
use Rattle.irtext_tests_roots.proofs.tests.layer.apart.word.Goals as goal

pub returns : goal.returns
unfolding chars
returns c = ap (λ bytes. word (chars bytes)) c.in_ok-from_str.ensures.ok
