use Rattle.std.proofs.Common.{refl}
use Rattle.irtext_base.proofs.OnlyAppended.{appends_nothing, if_failed}
use Rattle.irtext_print_ir.specs.Printers.Refused.{HasAppended}
use Rattle.irtext_print_ir.proofs.location.SourcePositionPrintable.fmt.Goals as goal

pub returns-in_err-text-clause-refused : goal.returns-in_err-text-clause-refused
returns-in_err-text-clause-refused g c = if_failed {P = HasAppended c.args._state.now c.args.f.now c.args._state.now c.args.f.now} c.from_residual.result (refl, appends_nothing refl)
