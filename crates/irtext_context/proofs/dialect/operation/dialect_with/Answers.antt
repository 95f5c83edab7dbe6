use Rattle.std.proofs.Common.{◌∙◌, ap}
use Rattle.irtext_context.specs.Dialects.{with_op}
use Rattle.irtext_base.specs.FormatViews.{format_of}
use Rattle.irtext_context.proofs.dialect.operation.dialect_with.Goals as goal

pub returns-in-Ok-add_op-clause-ok : goal.returns-in-Ok-add_op-clause-ok
returns-in-Ok-add_op-clause-ok g c =
    let a = c.args in
    let k = ap (λ e. e.0) c.in-Ok.ensures in
    let t = c.in-Ok-add_op.ensures.ok ∙ ap (λ e. with_op e.1 a.id (format_of a.format) a.isolated) c.in-Ok.ensures in
    λ i. (k i, t i)
