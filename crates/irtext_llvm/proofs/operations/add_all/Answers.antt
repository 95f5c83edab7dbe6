use Rattle.irtext_tokens.proofs.Exits.{propagated}
use Rattle.irtext_llvm.proofs.OperationFormats.{refused_there}
use Rattle.irtext_llvm.proofs.operations.add_all.Goals as goal

pub returns-in_err-add-clause-refused : goal.returns-in_err-add-clause-refused
returns-in_err-add-clause-refused g c =
    rw (propagated c.from_residual.result c.from_residual.ensures.1)
    (c.loop-op.invariant.refused _ (refused_there c.loop-op.ctx.dialects c.args.ops.now c.loop-op.op-index _ _ c.loop-op-test.true c.in_err-add.ensures.refused))
