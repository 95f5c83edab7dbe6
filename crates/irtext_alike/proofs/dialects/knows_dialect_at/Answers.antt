use Rattle.std.proofs.Common.{sym}
use Rattle.irtext_alike.proofs.Tables.{dialect_one}
use Rattle.irtext_alike.proofs.dialects.knows_dialect_at.Goals as goal

pub returns-in-Some : goal.returns-in-Some
returns-in-Some g c = dialect_one c.args.ctx.now.dialects c.args.other.now.dialects c.args.index c.in-Some.dialect.now c.knows_dialect.result (sym c.in-Some.ensures) c.knows_dialect.ensures
