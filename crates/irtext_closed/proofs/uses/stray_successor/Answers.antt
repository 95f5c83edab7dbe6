use Rattle.std.proofs.Common.{◌≡◌, length, subst, arith}
use Rattle.irtext_graph.specs.Parts.{successors}
use Rattle.irtext_graph.specs.declared.object.Site.TheVariants.{AtSuccessor}
use Rattle.irtext_closed.specs.Closed.{IsUseReached}
use Rattle.irtext_closed.proofs.Indices.{one_more, successors_reached}
use Rattle.irtext_closed.proofs.uses.stray_successor.Goals as goal

pub loop-i-preserved : goal.loop-i-preserved
loop-i-preserved g c = one_more (λ j. IsUseReached c.args.ctx.now (AtSuccessor c.args.op j)) c.loop-i.i c.loop-i.invariant (c.reaches_successor.ensures.0 c.if-not-reaches_successor.false)

pub returns-clause-none : goal.returns-clause-none
returns-clause-none g c =
    let count : c.num_successors-i-end.result ≡ length (successors c.args.ctx.now.graph c.args.op) = subst (λ x. c.num_successors-i-end.result ≡ length (successors x c.args.op)) c.graph.ensures c.num_successors-i-end.ensures in
    let end = c.loop-i-test.false in
    successors_reached c.args.ctx.now c.args.op (λ j less. c.loop-i.invariant j (omega (arith, less, count, end)))
