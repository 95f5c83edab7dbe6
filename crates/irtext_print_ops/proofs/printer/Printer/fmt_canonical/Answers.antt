use Rattle.std.proofs.Common.{codes, refl, string_bytes}
use Rattle.irtext_context.proofs.Parts.{seen_is_live}
use Rattle.irtext_print.specs.Printers.PrintedOperation.{language_in}
use Rattle.irtext_print.proofs.Printers.Locations.{two_framed}
use Rattle.irtext_print_ops.specs.Listed.{list_text}
use Rattle.irtext_print_ops.specs.declared.lists.Listed.TheVariants.{OperandTypes, ResultTypes}
use Rattle.irtext_print_ops.proofs.CanonicalTexts.{front_appended}
use Rattle.irtext_print_ops.proofs.printer.Printer.fmt_canonical.Goals as goal

pub fmt_uses-requires : goal.fmt_uses-requires
fmt_uses-requires g c = seen_is_live c.args.self.ctx.now c.args.op c.requires.live

pub fmt_listed-requires : goal.fmt_listed-requires
fmt_listed-requires g c = seen_is_live c.args.self.ctx.now c.args.op c.requires.live

pub fmt_listed-requires-2 : goal.fmt_listed-requires-2
fmt_listed-requires-2 g c = seen_is_live c.args.self.ctx.now c.args.op c.requires.live

pub returns-clause-text : goal.returns-clause-text
returns-clause-text g c =
    let L = language_in {T = g.row.T.Denot} {A = g.row.A.Denot} g.T.IrText g.A.IrText c.args.self.ctx.now in
    let operands = list_text g.T.IrText.written c.args.self.ctx.now (OperandTypes c.args.op) 0 in
    let results = list_text g.T.IrText.written c.args.self.ctx.now (ResultTypes c.args.op) 0 in
    let types =
    two_framed (codes "]: <(") operands (codes ") -> (") results (codes ")>") (string_bytes c.fmt_entries.new.f) (string_bytes c.push_str.new.text) (string_bytes c.fmt_listed.new.f) (string_bytes c.push_str-2.new.text) (string_bytes c.fmt_listed-2.new.f) (string_bytes c.push_str-3.new.text) refl refl refl
    c.in_ok-push_str.ensures.bytes c.in_ok-fmt_listed.ensures.text c.in_ok-push_str-2.ensures.bytes c.in_ok-fmt_listed-2.ensures.text c.in_ok-push_str-3.ensures.bytes in
    front_appended L g.A.AttrText.outlined g.A.AttrText.print_once g.A.PartialEq.eq g.A.IrText.written c.args.self.ctx.now c.args.op c.attributes.result.now (string_bytes c.args.f.now) (string_bytes c.fmt_uses.new.f) (string_bytes c.fmt_entries.new.f) (string_bytes c.push_str-3.new.text)
    c.attributes.ensures c.in_ok-fmt_uses.ensures.text c.in_ok-fmt_entries.ensures.text types
