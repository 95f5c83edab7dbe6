use Rattle.std.proofs.Common.{◌≡◌, refl}
use Rattle.std.specs.Prelude.{codes}
use Rattle.irtext_tool.proofs.Telling.{writes_about}
use Rattle.irtext_tool.proofs.report.report_memory.Goals as goal

pub returns : goal.returns
returns g c =
    writes_about (g.E.Write.contents c.args.errors.now) (g.E.Write.contents c.report_file.new.errors) c.report_file.result c.args.scene.form c.args.scene.path.now (codes "memory")
    (λ message. message ≡ codes "out of memory") (codes "out of memory") c.report_file.ensures refl
