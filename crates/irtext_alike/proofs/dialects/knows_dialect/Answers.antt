use Rattle.std.proofs.Common.{◌≡◌, refl, arith}
use Rattle.irtext_base.specs.declared.base.identifier.OpId.{OpId}
use Rattle.irtext_context.specs.DialectTable.{registered}
use Rattle.irtext_context.specs.Dialects.{Known}
use Rattle.irtext_alike.specs.Each.{KnowsAt}
use Rattle.irtext_alike.proofs.Tables.{one_more, not_each, below_end}
use Rattle.irtext_alike.proofs.dialects.knows_dialect.Goals as goal

pub returns-then-not-knows_op : goal.returns-then-not-knows_op
returns-then-not-knows_op g c =
    not_each (KnowsAt c.args.ctx.now.dialects c.args.other.now.dialects c.args.dialect.now.entries) c.loop-index.index c.knows_op.result c.knows_op.ensures c.if-not-knows_op.true

pub loop-index-preserved : goal.loop-index-preserved
loop-index-preserved g c =
    one_more (KnowsAt c.args.ctx.now.dialects c.args.other.now.dialects c.args.dialect.now.entries) c.loop-index.index c.loop-index.invariant (c.knows_op.ensures.0 c.if-not-knows_op.false)

pub returns : goal.returns
returns g c =
    let count = c.num_ops-index-end.ensures in
    let end = c.loop-index-test.false in
    let d = c.args.ctx.now.dialects in
    let e = c.args.other.now.dialects in
    ((λ t. below_end (λ (x : OpId × Known). registered e x.0 ≡ registered d x.0) c.args.dialect.now.entries c.loop-index.index (omega (arith, count, end)) c.loop-index.invariant), (λ all. refl))
