use Rattle.std.proofs.Common.{◌++◌}
use Rattle.std.specs.Prelude.{codes, string_bytes}
use Rattle.irtext_base.specs.Causes.{id_text}
use Rattle.irtext_tool.specs.Told.{IsOr}
use Rattle.irtext_tool.proofs.Telling.{writes_at, is_made}
use Rattle.irtext_tool.proofs.report.report_misfit.Goals as goal

pub returns : goal.returns
returns g c =
    let misfit = c.args.misfit.now in
    let text = codes "Operation " ++ (id_text misfit.id ++ (codes " does not fit its format: " ++ string_bytes misfit.reason)) in
    let short = codes "an operation does not fit its format" in
    writes_at (g.E.Write.contents c.args.errors.now) (g.E.Write.contents c.write_report.new.errors) c.write_report.result c.args.scene.form c.args.scene.path.now (codes "misfit")
    (IsOr text short) c.args.text.now misfit.position c.place_in-place.result c.made_or-message.result.now c.made.result c.as_slice.result.now c.write_report.ensures c.place_in-place.ensures
    (is_made c.format-message.result text short c.made_or-message.result.now c.format-message.ensures.ok c.made_or-message.ensures)
