use Rattle.irtext_tool.specs.Told.{IsMemory}
use Rattle.irtext_tool.proofs.Telling.{followed, is_more}
use Rattle.irtext_tool.proofs.recovery.report_rejections.Goals as goal

pub returns-in_ok-next-in-Ok-Some : goal.returns-in_ok-next-in-Ok-Some
returns-in_ok-next-in-Ok-Some g c =
    followed c.args.scene.form c.args.scene.path.now c.args.text.now c.args.fault.now
    (g.E.Write.contents c.args.errors.now) (g.E.Write.contents c.report_look.new.errors) (g.E.Write.contents c.report_others.new.errors)
    c.report_others.result c.in_ok-next-in-Ok-Some.ensures c.report_others.ensures

pub returns-in_ok-report_alone-in-Err : goal.returns-in_ok-report_alone-in-Err
returns-in_ok-report_alone-in-Err g c =
    let form = c.args.scene.form in
    let path = c.args.scene.path.now in
    let mid = g.E.Write.contents c.report_alone-in-Err.new.errors in
    let after = g.E.Write.contents c.report_memory.new.errors in
    followed form path c.args.text.now c.args.fault.now (g.E.Write.contents c.args.errors.now) mid after
    c.report_memory.result c.in_ok-report_alone-in-Err.ensures (is_more mid after c.report_memory.result (IsMemory form path) c.report_memory.ensures)
