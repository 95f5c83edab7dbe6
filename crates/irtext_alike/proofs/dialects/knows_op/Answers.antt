use Rattle.std.proofs.Common.{sym}
use Rattle.irtext_context.specs.DialectTable.{registered}
use Rattle.irtext_context.specs.Dialects.{known_of}
use Rattle.irtext_alike.proofs.Tables.{is_alike, at_one}
use Rattle.irtext_alike.proofs.dialects.knows_op.Goals as goal

pub returns-in-Some : goal.returns-in-Some
returns-in-Some g c =
    let here = registered c.args.ctx.now.dialects c.in-Some.id.now in
    let there = registered c.args.other.now.dialects c.in-Some.id.now in
    at_one c.args.ctx.now.dialects c.args.other.now.dialects c.args.dialect.now.entries c.args.index (c.in-Some.id.now, known_of c.in-Some.field-0-1.now) c.is_none.result (sym c.in-Some.ensures.found)
    (is_alike here there c.unlike_id.result c.is_none.result c.is_none.ensures c.unlike_id.ensures.alike c.unlike_id.ensures.unlike)
