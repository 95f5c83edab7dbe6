use Rattle.std.proofs.Common.{◌<◌, ◌≤◌, arith, length, string_bytes}
use Rattle.irtext_print_ops.specs.Listed.{text_at, texts_of}
use Rattle.irtext_print_ops.proofs.ItemTexts.{item_spaced, none_at, nothing_written}
use Rattle.irtext_print_ops.proofs.printer.Printer.fmt_item_at.Goals as goal

pub returns-then-index-count-clause-text : goal.returns-then-index-count-clause-text
returns-then-index-count-clause-text g c =
    let all = texts_of g.T.IrText.written c.args.self.ctx.now c.args.list in
    let past : length (texts_of g.T.IrText.written c.args.self.ctx.now c.args.list) ≤ c.args.index = omega (arith, c.count.ensures, c.if-index-count.true) in
    nothing_written (text_at g.T.IrText.written c.args.self.ctx.now c.args.list c.args.index) (string_bytes c.args.f.now) (none_at all c.args.index past)

pub returns-clause-text : goal.returns-clause-text
returns-clause-text g c =
    let less : c.args.index < length (texts_of g.T.IrText.written c.args.self.ctx.now c.args.list) = omega (arith, c.count.ensures, c.if-index-count.false) in
    item_spaced (text_at g.T.IrText.written c.args.self.ctx.now c.args.list c.args.index) (c.requires.text less) (string_bytes c.args.f.now) (string_bytes c.push_str.new.text) (string_bytes c.fmt_item.new.f)
    c.in_ok-push_str.ensures.bytes c.in_ok-fmt_item.ensures.text
