use Rattle.std.proofs.Common.{refl, string_bytes}
use Rattle.irtext_print_ir.specs.Printers.OpPrinters.{header_of}
use Rattle.irtext_print_ir.proofs.Printers.OpPrinters.{part_writes}
use Rattle.irtext_print_ir.proofs.irfmt.printers.op.SymbHeaderPrintable.fmt.Goals as goal

pub returns-clause-prints : goal.returns-clause-prints
returns-clause-prints g c = record { written = c.in_ok-print_symb_op_header.ensures.prints; state = refl }

pub returns-clause-text : goal.returns-clause-text
returns-clause-text g c =
    part_writes c.args._state.now c.args._state.now (string_bytes c.args.f.now) (string_bytes c.print_symb_op_header.new.f) c.args.ctx.now c.args.self.now.op header_of (returns-clause-prints g c)
