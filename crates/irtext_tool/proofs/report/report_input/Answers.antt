use Rattle.std.proofs.Common.{sym, subst}
use Rattle.std.specs.Prelude.{OnOk}
use Rattle.irtext_tool.specs.Told.{Writes, TellsInput, TellsNotUtf8}
use Rattle.irtext_tool.proofs.report.report_input.Goals as goal

pub returns-in-NotUtf8 : goal.returns-in-NotUtf8
returns-in-NotUtf8 g c =
    let before = g.E.Write.contents c.args.errors.now in
    let after = g.E.Write.contents c.report_bytes.new.errors in
    let form = c.args.scene.form in
    let path = c.args.scene.path.now in
    subst (λ fault. OnOk c.report_bytes.result (Writes before after (TellsInput form path fault))) (sym c.in-NotUtf8.is)
    (subst (λ all. OnOk c.report_bytes.result (Writes before after (TellsNotUtf8 form path all))) c.as_slice.ensures.value c.report_bytes.ensures)
