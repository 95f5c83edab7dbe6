use Rattle.std.proofs.Common.{refl, arith}
use Rattle.std.specs.Map.{values_of}
use Rattle.std.proofs.lemmas.List.{length-map}
use Rattle.irtext_context.specs.Dialects.{Table}
use Rattle.irtext_alike.specs.Each.{KnowsTable, KnowsTableAt}
use Rattle.irtext_alike.proofs.Tables.{one_more, not_each, below_end}
use Rattle.irtext_alike.proofs.dialects.knows_each.Goals as goal

pub returns-then-not-knows_dialect_at : goal.returns-then-not-knows_dialect_at
returns-then-not-knows_dialect_at g c = not_each (KnowsTableAt c.args.ctx.now.dialects c.args.other.now.dialects) c.loop-index.index c.knows_dialect_at.result c.knows_dialect_at.ensures c.if-not-knows_dialect_at.true

pub loop-index-preserved : goal.loop-index-preserved
loop-index-preserved g c = one_more (KnowsTableAt c.args.ctx.now.dialects c.args.other.now.dialects) c.loop-index.index c.loop-index.invariant (c.knows_dialect_at.ensures.0 c.if-not-knows_dialect_at.false)

pub returns : goal.returns
returns g c =
    let d = c.args.ctx.now.dialects in
    let e = c.args.other.now.dialects in
    let count = c.num_dialects-index-end.ensures in
    let end = c.loop-index-test.false in
    let size = length-map d (λ x. x.1) in
    ((λ t. below_end (λ (table : Table). KnowsTable d e table) (values_of d) c.loop-index.index (omega (arith, count, end, size)) c.loop-index.invariant), (λ all. refl))
