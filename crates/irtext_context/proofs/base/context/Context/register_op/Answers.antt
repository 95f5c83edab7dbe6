use Rattle.std.proofs.Common.{◌∙◌, ap, Err}
use Rattle.std.proofs.lemmas.Result.{IfErr-weaker, err_from_is_err_and}
use Rattle.irtext_context.proofs.RefusedOps.{refused_op}
use Rattle.irtext_context.proofs.base.context.Context.register_op.Goals as goal

pub returns-in_err-id-clause-refused : goal.returns-in_err-id-clause-refused
returns-in_err-id-clause-refused g c =
    let given = err_from_is_err_and c.from_residual.result c.from_residual.ensures.1 in
    rw (given.1 ∙ ap Err given.2) (c.in_err-id.ensures.refused _)

pub returns-clause-refused : goal.returns-clause-refused
returns-clause-refused g c =
    let a = c.args in
    let id = c.in_ok-id.ensures in
    IfErr-weaker c.put_op.result _ _ (λ e said_in_error. refused_op a.self.now.dialects a.dialect.now a.name.now _ a.format e.err id.fits id.ok said_in_error) c.put_op.ensures.refused
