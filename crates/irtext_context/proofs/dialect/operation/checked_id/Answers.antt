use Rattle.std.proofs.lemmas.Result.{IfErr-weaker}
use Rattle.irtext_base.specs.FormatViews.{format_of}
use Rattle.irtext_context.proofs.RefusedOps.{refused_name}
use Rattle.irtext_context.proofs.dialect.operation.checked_id.Goals as goal

pub returns-in-Ok-clause-refused : goal.returns-in-Ok-clause-refused
returns-in-Ok-clause-refused g c =
    let a = c.args in
    IfErr-weaker c.try_new.result _ _ (λ e said_in_error own. refused_name own a.dialect.now a.name.now (format_of a.format.now) e.err c.in-Ok.ensures said_in_error) c.try_new.ensures.refused

pub returns-in-Err-clause-refused : goal.returns-in-Err-clause-refused
returns-in-Err-clause-refused g c = λ own. rw (c.invalid.ensures) c.in-Err.ensures
