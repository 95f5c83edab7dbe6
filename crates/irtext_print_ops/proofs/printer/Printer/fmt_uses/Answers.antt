use Rattle.std.proofs.Common.{◌++◌, codes, refl, string_bytes}
use Rattle.irtext_print.proofs.Printers.Appended.{then}
use Rattle.irtext_print.proofs.Printers.Locations.{more, worded}
use Rattle.irtext_print_ops.specs.Listed.{list_text}
use Rattle.irtext_print_ops.specs.declared.lists.Listed.TheVariants.{Operands, Successors}
use Rattle.irtext_print_ops.proofs.printer.Printer.fmt_uses.Goals as goal

pub returns-clause-text : goal.returns-clause-text
returns-clause-text g c =
    let operands = list_text g.T.IrText.written c.args.self.ctx.now (Operands c.args.op) 0 in
    let following = codes ") [" ++ (list_text g.T.IrText.written c.args.self.ctx.now (Successors c.args.op) 0 ++ codes "] [") in
    then c.fmt_enclosed.result
    (λ w. worded (string_bytes c.args.f.now) (string_bytes c.push_str.new.text) (string_bytes c.fmt_enclosed.new.f) (codes " (") (operands ++ following) refl c.in_ok-push_str.ensures.bytes
    (more (string_bytes c.push_str.new.text) (string_bytes c.fmt_listed.new.f) (string_bytes c.fmt_enclosed.new.f) operands following c.in_ok-fmt_listed.ensures.text w))
    c.fmt_enclosed.ensures.text
