use Rattle.std.proofs.Common.{◌∙◌}
use Rattle.std.proofs.lemmas.Result.{IfErr-weaker}
use Rattle.irtext_base.proofs.Results.{where_ok}
use Rattle.irtext_llvm.proofs.OperationFormats.{refused, registered_so}
use Rattle.irtext_llvm.proofs.operations.add.Goals as goal

pub returns-clause-refused : goal.returns-clause-refused
returns-clause-refused g c =
    let a = c.args in
    let row = c.row-isolated.ensures in
    IfErr-weaker c.register_op.result _ _ (λ e why. refused a.ctx.now.dialects a.op _ c.in_ok-format.format e.err row.name c.in_ok-format.ensures why) c.register_op.ensures.refused

pub returns-clause-ok : goal.returns-clause-ok
returns-clause-ok g c =
    let a = c.args in
    let row = c.row-isolated.ensures in
    where_ok c.register_op.result (λ h. h ∙ registered_so a.ctx.now.dialects a.op _ c.in_ok-format.format _ row.name c.in_ok-format.ensures row.isolated) c.register_op.ensures.ok
