use Rattle.std.proofs.Common.{refl}
use Rattle.irtext_base.proofs.OnlyAppended.{appends_nothing, if_failed}
use Rattle.irtext_print_ir.proofs.result.fmt_cause.Goals as goal

pub returns-in_err-text-clause-appended : goal.returns-in_err-text-clause-appended
returns-in_err-text-clause-appended g c = if_failed _ (appends_nothing refl)
