use Rattle.std.proofs.Common.{arith}
use Rattle.irtext_graph_queries.proofs.FirstResults.{result_there, next_counted, all_counted}
use Rattle.irtext_graph_queries.proofs.operation.PtrOperationOperationParts.num_uses.Goals as goal

pub num_uses-uses-requires : goal.num_uses-uses-requires
num_uses-uses-requires g c = rw c.graph.ensures (result_there (g.C.HasGraph.graph c.args.ctx.now) c.args.self c.loop-i.i c.count_results-i-end.result c.count_results-i-end.ensures.count c.loop-i-test.true)

pub loop-i-preserved : goal.loop-i-preserved
loop-i-preserved g c =
    let v = g.C.HasGraph.graph c.args.ctx.now in
    let sum = c.saturating_add-n.ensures in
    record {
      counted = next_counted v c.args.self c.loop-i.i c.loop-i.n c.num_uses-uses.result c.saturating_add-n.result (omega (arith, sum)) (λ few. omega (arith, sum, few)) c.loop-i.invariant.counted (rw (← c.graph.ensures) c.num_uses-uses.ensures);
    }

pub returns : goal.returns
returns g c = all_counted (g.C.HasGraph.graph c.args.ctx.now) c.args.self c.loop-i.i c.loop-i.n (λ k u e. let less = c.count_results-i-end.ensures.used k u e in let end = c.loop-i-test.false in omega (arith, less, end)) c.loop-i.invariant.counted
