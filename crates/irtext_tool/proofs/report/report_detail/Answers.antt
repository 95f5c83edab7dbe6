use Rattle.irtext_tool.specs.Told.{HasDetail}
use Rattle.irtext_tool.proofs.Telling.{writes_about, has_detail}
use Rattle.irtext_tool.proofs.report.report_detail.Goals as goal

pub returns : goal.returns
returns g c =
    let detail = g.D.Display.output c.args.detail.now in
    writes_about (g.E.Write.contents c.args.errors.now) (g.E.Write.contents c.report_file.new.errors) c.report_file.result c.args.scene.form c.args.scene.path.now c.args.cause.now
    (HasDetail c.args.sentence.now detail) c.made_or.result.now c.report_file.ensures
    (has_detail c.detailed-message.result c.args.sentence.now detail c.made_or.result.now c.detailed-message.ensures c.made_or.ensures)
