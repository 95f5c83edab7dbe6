use Rattle.irtext_tokens.proofs.Exits.{propagated}
use Rattle.irtext_demo.proofs.DemoFormats.{refused_there}
use Rattle.irtext_demo.proofs.dialects.add_all.Goals as goal

pub returns-in_err-add-clause-refused : goal.returns-in_err-add-clause-refused
returns-in_err-add-clause-refused g c =
    rw (propagated c.from_residual.result c.from_residual.ensures.1)
    (c.loop-demo.invariant.refused _ (refused_there c.loop-demo.ctx.dialects c.args.demos.now c.loop-demo.demo-index _ _ c.loop-demo-test.true c.in_err-add.ensures.refused))
