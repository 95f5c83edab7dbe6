use Rattle.irtext_print_ir.proofs.ir.print.debug.print_dbg.Goals as goal

pub returns-clause-defined : goal.returns-clause-defined
returns-clause-defined g c = c.in_ok-print_elided.ensures.prints.text
