use Rattle.std.proofs.Common.{◌≡◌, refl, sym, subst}
use Rattle.std.specs.Prelude.{OnOk, codes}
use Rattle.irtext_tool.specs.Told.{Writes, TellsText}
use Rattle.irtext_tool.proofs.Telling.{writes_about}
use Rattle.irtext_tool.proofs.run.report_text.Goals as goal

pub returns-in-TooDeep : goal.returns-in-TooDeep
returns-in-TooDeep g c =
    let before = g.E.Write.contents c.args.errors.now in
    let after = g.E.Write.contents c.report_file.new.errors in
    let form = c.args.scene.form in
    let path = c.args.scene.path.now in
    let deep = codes "regions are nested too deep: an indentation does not fit 16 bits" in
    subst (λ fault. OnOk c.report_file.result (Writes before after (TellsText form path c.args.text.now fault))) (sym c.in-TooDeep.is)
    (writes_about before after c.report_file.result form path (codes "too-deep") (λ message. message ≡ deep) deep c.report_file.ensures refl)
