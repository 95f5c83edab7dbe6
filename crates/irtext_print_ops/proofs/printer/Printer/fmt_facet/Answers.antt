use Rattle.std.proofs.Common.{string_bytes}
use Rattle.irtext_print.proofs.Printers.Appended.{then}
use Rattle.irtext_print_ops.proofs.ItemTexts.{both_written, facet_written}
use Rattle.irtext_print_ops.proofs.printer.Printer.fmt_facet.Goals as goal

pub returns-in_ok-push_str-in-Both-clause-text : goal.returns-in_ok-push_str-in-Both-clause-text
returns-in_ok-push_str-in-Both-clause-text g c =
    then c.write_text-in-Both.result
    (λ p. facet_written g.T.IrText.written c.args.self.ctx.now c.args.value c.args.facet c.args.of_type.now (string_bytes c.args.f.now) (string_bytes c.write_text-in-Both.new.f) c.in-Both.is
    (both_written g.T.IrText.written c.args.self.ctx.now c.args.value c.args.of_type.now (string_bytes c.args.f.now) (string_bytes c.fmt_value_name-in-Both.new.f) (string_bytes c.push_str.new.text) (string_bytes c.write_text-in-Both.new.f)
    c.in_ok-fmt_value_name-in-Both.ensures.text c.in_ok-push_str-in-Both.ensures.bytes p))
    c.write_text-in-Both.ensures.text
