use Rattle.std.proofs.Common.{[], None}
use Rattle.std.specs.Prelude.{codes, ⊤}
use Rattle.irtext_tool.specs.Reports.{said_bytes}
use Rattle.irtext_tool.proofs.Telling.{writes}
use Rattle.irtext_tool.proofs.recovery.report_limit.Goals as goal

pub returns : goal.returns
returns g c =
    let d = c.diagnostic.result in
    writes (g.E.Write.contents c.args.errors.now) (g.E.Write.contents c.write_report.new.errors) c.write_report.result
    (said_bytes c.args.scene.form d.severity d.path.now d.place d.message.now (codes "limit") None []) (λ bytes. ⊤) c.write_report.ensures tt
