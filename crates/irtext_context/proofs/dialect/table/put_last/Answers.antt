use Rattle.std.proofs.Common.{◌∙◌}
use Rattle.irtext_context.proofs.DialectTables.{entry_last}
use Rattle.irtext_context.proofs.dialect.table.put_last.Goals as goal

pub returns-clause-ok : goal.returns-clause-ok
returns-clause-ok c = c.in_ok-insert.ensures.entries ∙ entry_last c.args.dialects.now.entries c.args.key c.args.dialect c.requires
