use Rattle.std.proofs.Common.{arith}
use Rattle.irtext_graph.proofs.Closed.{older_on}
use Rattle.irtext_graph.proofs.Marks.{operation_came}
use Rattle.irtext_tests_graph.proofs.Kept.{got}
use Rattle.irtext_tests_graph.proofs.tests.back.makes_with_two.Goals as goal

pub returns : goal.returns
returns g c = record {
  kept = λ m up.
      let k = c.make_operation.ensures.kept m up in
      older_on m _ _ _ k (c.adds_two.ensures.kept m (let e = k.made in omega (arith, e, up)) (operation_came m _ _ c.expect-op.result _ _ _ _ up (got _ _ _ c.expect-op.ensures c.make_operation.ensures.made)));
}
