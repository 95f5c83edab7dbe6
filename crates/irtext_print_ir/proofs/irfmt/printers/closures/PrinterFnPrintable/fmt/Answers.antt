use Rattle.irtext_print_ir.proofs.Printers.Calls.{FnWrites-on_ok, FnRefuses-on_err}
use Rattle.irtext_print_ir.proofs.irfmt.printers.closures.PrinterFnPrintable.fmt.Goals as goal

pub returns-clause-prints : goal.returns-clause-prints
returns-clause-prints g c = FnWrites-on_ok g.F.Fn _ _ _ _ _ _ _ c.print.ensures

pub returns-clause-refused : goal.returns-clause-refused
returns-clause-refused g c = FnRefuses-on_err g.F.Fn _ _ _ _ _ _ _ c.print.ensures
