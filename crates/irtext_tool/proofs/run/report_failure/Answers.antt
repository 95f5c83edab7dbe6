use Rattle.std.proofs.Common.{sym, subst}
use Rattle.std.specs.Prelude.{OnOk}
use Rattle.irtext_tool.specs.Told.{Writes, Tells}
use Rattle.irtext_tool.proofs.run.report_failure.Goals as goal

pub returns-in-Unwritable-clause-told : goal.returns-in-Unwritable-clause-told
returns-in-Unwritable-clause-told g c =
    let before = g.E.Write.contents c.args.errors.now in
    let after = g.E.Write.contents c.report_output.new.errors in
    subst (λ failure. OnOk c.report_output.result (Writes before after (Tells c.args.scene.form c.args.scene.path.now c.args.text.now failure)))
    (sym c.in-Unwritable.is) c.report_output.ensures.told
