use Rattle.std.specs.Prelude.{codes, Some}
use Rattle.irtext_base.specs.Causes.{cause_text}
use Rattle.irtext_tool.specs.Told.{IsAbout, HasDetail}
use Rattle.irtext_tool.proofs.Telling.{followed, is_more}
use Rattle.irtext_tool.proofs.run.report_roots.Goals as goal

pub returns-in_ok-report_alone-in-Err : goal.returns-in_ok-report_alone-in-Err
returns-in_ok-report_alone-in-Err g c =
    let before = g.E.Write.contents c.args.errors.now in
    let mid = g.E.Write.contents c.report_alone.new.errors in
    let after = g.E.Write.contents c.report_dialects.new.errors in
    let form = c.args.scene.form in
    let path = c.args.scene.path.now in
    followed form path c.args.text.now c.args.fault.now before mid after c.report_dialects.result c.in_ok-report_alone-in-Err.ensures
    (is_more mid after c.report_dialects.result (IsAbout form path (codes "dialects") (HasDetail (codes "the dialects of this program cannot be registered") (Some (cause_text c.in-Err.error.err)))) c.report_dialects.ensures)
