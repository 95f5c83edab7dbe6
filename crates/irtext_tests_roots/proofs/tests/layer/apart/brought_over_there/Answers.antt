use Rattle.std.proofs.Common.{ap}
use Rattle.irtext_context.specs.DialectTable.{registered}
use Rattle.irtext_tests_roots.proofs.tests.layer.apart.brought_over_there.Goals as goal

pub brought_over-requires : goal.brought_over-requires
brought_over-requires g c = λ id. ap (λ d. registered d id) c.requires
