use Rattle.std.proofs.Common.{◌∙◌, sym, ap, refl, codes, string_bytes, option_copied}
use Rattle.irtext_context.specs.Context.{operation}
use Rattle.irtext_print.proofs.Printers.Locations.{worded}
use Rattle.irtext_print_ir.proofs.Printers.OpPrinters.{header_appended}
use Rattle.irtext_print.proofs.Printers.OperationTexts.{seen}
use Rattle.irtext_print.proofs.Printers.PieceTexts.{identifier_appended}
use Rattle.irtext_print.proofs.Printers.RootParts.{there}
use Rattle.irtext_print_ir.proofs.irfmt.printers.op.print_symb_op_header.Goals as goal

pub returns-clause-prints : goal.returns-clause-prints
returns-clause-prints g c =
    let o = operation c.args.ctx.now c.args.op in
    let v = there o c.requires.live in
    let name = c.in-Some.symbol.now in
    record {
      view = v.0;
      alive = v.1;
      text = header_appended v.0 c.get_opid-id.result.now c.attributes-attributes.result.now name (string_bytes c.args.f.now) (string_bytes c.fmt_id.new.f) (string_bytes c.push_str-2.new.text)
          (seen (λ op. op.id) o v.0 c.get_opid-id.result.now v.1 c.get_opid-id.ensures) (seen (λ op. op.attributes) o v.0 c.attributes-attributes.result.now v.1 c.attributes-attributes.ensures)
          (sym c.symbol_of.ensures ∙ ap option_copied c.in-Some.is) c.in_ok-fmt_id.ensures.text
          (worded (string_bytes c.fmt_id.new.f) (string_bytes c.push_str.new.text) (string_bytes c.push_str-2.new.text) (codes " @") name refl c.in_ok-push_str.ensures.bytes
          (identifier_appended name c.as_str.result.now (string_bytes c.push_str.new.text) (string_bytes c.push_str-2.new.text) c.as_str.ensures.fits c.as_str.ensures.text c.in_ok-push_str-2.ensures.bytes));
    }
