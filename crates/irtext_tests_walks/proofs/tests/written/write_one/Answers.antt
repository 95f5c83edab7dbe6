use Rattle.std.proofs.Common.{ℕ}
use Rattle.irtext_graph.proofs.Data.{edited}
use Rattle.irtext_tests_walks.proofs.tests.written.write_one.Goals as goal

pub returns : goal.returns
returns c =
    let graph = c.args.holder.now.graph in
    let change : ℕ → ℕ = λ _. c.args.number in
    c.data_edits_keep_walks.ensures.operation graph _ c.args.op change (edited graph c.args.op c.operation_mut.result.now change c.operation_mut.ensures.value)
