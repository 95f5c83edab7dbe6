use Rattle.std.proofs.Common.{ap}
use Rattle.irtext_base.specs.FormatViews.{format_of}
use Rattle.irtext_context.proofs.DialectTables.{first_op}
use Rattle.irtext_context.proofs.dialect.operation.put_first.Goals as goal

pub returns-in-Ok-put_last-clause-ok : goal.returns-in-Ok-put_last-clause-ok
returns-in-Ok-put_last-clause-ok g c =
    let a = c.args in
    first_op a.dialects.now.entries _ a.id (format_of a.format) a.isolated _ _ c.requires.absent (ap (λ e. e.0) c.in-Ok.ensures.ok)
    (ap (λ e. e.1) c.in-Ok.ensures.ok) c.in-Ok-put_last.ensures.ok
