use Rattle.irtext_print_ir.proofs.ir.print.OpObjPrintable.fmt.Goals as goal

pub returns-clause-text : goal.returns-clause-text
returns-clause-text g c = record { text = c.in_ok-print_concrete.ensures.prints.text; state = c.in_ok-print_concrete.ensures.prints.state }
