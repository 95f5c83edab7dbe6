use Rattle.std.proofs.Common.{subst, Some}
use Rattle.std.specs.Prelude.{OnOk}
use Rattle.irtext_base.specs.Causes.{cause_text}
use Rattle.irtext_diagnostics.specs.Causes.{cause_word}
use Rattle.irtext_tool.specs.Told.{IsOr, IsAt, Writes}
use Rattle.irtext_tool.proofs.Telling.{writes_at, is_made}
use Rattle.irtext_tool.proofs.recovery.report_rejection.Goals as goal

pub returns : goal.returns
returns g c =
    let before = g.E.Write.contents c.args.errors.now in
    let after = g.E.Write.contents c.write_report.new.errors in
    let form = c.args.scene.form in
    let path = c.args.scene.path.now in
    let at = Some c.args.fault.now.pos in
    let cause = c.innermost-cause.result.now in
    let word = c.cause_word-word.result.now in
    subst (λ x. OnOk c.write_report.result (Writes before after (IsAt form path (cause_word x) (IsOr (cause_text x) (cause_word x)) c.args.text.now at))) c.innermost-cause.ensures
    (subst (λ w. OnOk c.write_report.result (Writes before after (IsAt form path w (IsOr (cause_text cause) w) c.args.text.now at))) c.cause_word-word.ensures
    (writes_at before after c.write_report.result form path word (IsOr (cause_text cause) word) c.args.text.now at c.place_in-place.result c.made_or-message.result.now c.name_in.result c.as_slice.result.now
    c.write_report.ensures c.place_in-place.ensures (is_made c.format-made.result (cause_text cause) word c.made_or-message.result.now c.format-made.ensures.ok c.made_or-message.ensures)))
