use Rattle.std.proofs.Common.{true, subst, IsTrue}
use Rattle.std.specs.Prelude.{◌↔◌}
use Rattle.irtext_alike.specs.Each.{KnowsEach}
use Rattle.irtext_alike.proofs.Tables.{same_both_ways}
use Rattle.irtext_alike.proofs.dialects.same_dialects.Goals as goal

pub returns-then-there : goal.returns-then-there
returns-then-there g c =
    let a = c.args.a.now.dialects in
    let b = c.args.b.now.dialects in
    same_both_ways a b true c.knows_each-back.result (subst (λ x. IsTrue x ↔ KnowsEach a b) c.if-there.true c.knows_each-there.ensures) c.knows_each-back.ensures
