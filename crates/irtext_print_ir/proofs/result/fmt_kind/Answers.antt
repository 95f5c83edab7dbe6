use Rattle.std.proofs.Common.{◌++◌, ◌∙◌, ap, refl, string_bytes}
use Rattle.irtext_base.proofs.OnlyAppended.{appends_nothing, if_failed}
use Rattle.irtext_print_ir.proofs.result.fmt_kind.Goals as goal

pub returns-in_err-line-clause-appended : goal.returns-in_err-line-clause-appended
returns-in_err-line-clause-appended c = if_failed _ (appends_nothing refl)

pub returns-clause-text : goal.returns-clause-text
returns-clause-text c = c.in_ok-push_str.ensures.bytes ∙ ap (λ z. string_bytes c.args.f.now ++ z) (c.as_str.ensures.value ∙ c.in_ok-line.ensures.ok)
