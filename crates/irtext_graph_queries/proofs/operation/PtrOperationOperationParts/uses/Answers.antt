use Rattle.std.proofs.Common.{◌++◌, ◌∙◌, ap, arith}
use Rattle.irtext_graph_queries.proofs.FirstResults.{result_there, none_listed, next_listed, all_listed}
use Rattle.irtext_graph_queries.proofs.operation.PtrOperationOperationParts.uses.Goals as goal

pub uses-requires : goal.uses-requires
uses-requires g c = rw c.graph-in-loop-i.ensures (result_there (g.C.HasGraph.graph c.args.ctx.now) c.args.self c.loop-i.i c.count_results-i-end.result c.count_results-i-end.ensures.count c.loop-i-test.true)

pub loop-i-init : goal.loop-i-init
loop-i-init g c = record { listed = rw c.new-all.ensures.items (none_listed (g.C.HasGraph.graph c.args.ctx.now) c.args.self) }

pub loop-i-preserved : goal.loop-i-preserved
loop-i-preserved g c =
    let v = g.C.HasGraph.graph c.args.ctx.now in
    record {
      listed = next_listed v c.args.self c.loop-i.i c.loop-i.all.items c.in_ok-uses.uses.items c.extend_from_slice.new.items.items (c.in_ok-extend_from_slice.ensures.items ∙ ap (λ us. c.loop-i.all.items ++ us) c.deref.ensures.value) c.loop-i.invariant.listed (rw (← c.graph-in-loop-i.ensures) c.in_ok-uses.ensures);
    }

pub returns : goal.returns
returns g c = all_listed (g.C.HasGraph.graph c.args.ctx.now) c.args.self c.loop-i.i c.loop-i.all.items (λ k u e. let less = c.count_results-i-end.ensures.used k u e in let end = c.loop-i-test.false in omega (arith, less, end)) c.loop-i.invariant.listed
