use Rattle.std.proofs.Common.{arith}
use Rattle.irtext_graph_queries.proofs.FirstResults.{result_there, next_unused}
use Rattle.irtext_graph_queries.proofs.operation.PtrOperationOperationParts.has_use.Goals as goal

pub has_use-requires : goal.has_use-requires
has_use-requires g c = rw c.graph.ensures (result_there (g.C.HasGraph.graph c.args.ctx.now) c.args.self c.loop-i.i c.count_results-i-end.result c.count_results-i-end.ensures.count c.loop-i-test.true)

pub loop-i-init : goal.loop-i-init
loop-i-init g c = record { unused = λ u m. let less = m.1 in omega (arith, less) }

pub loop-i-preserved : goal.loop-i-preserved
loop-i-preserved g c =
    let v = g.C.HasGraph.graph c.args.ctx.now in
    record {
      unused = next_unused v c.args.self c.loop-i.i c.loop-i.invariant.unused (λ u e. absurd (let met = c.has_use.ensures.1 (u, rw c.graph.ensures e) in let not_met = c.if-has_use.false in cc));
    }

pub returns : goal.returns
returns g c = (λ e. absurd (cc), λ m. absurd (c.loop-i.invariant.unused m.0 (m.1.0, (let less = c.count_results-i-end.ensures.used m.1.0 m.0 m.1.1 in let end = c.loop-i-test.false in omega (arith, less, end)), m.1.1)))
