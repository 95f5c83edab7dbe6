use Rattle.std.proofs.Common.{◌++◌, ◌∙◌, [], ap, sym, refl, append_assoc, append-nil, string_bytes}
use Rattle.std.specs.Str.{encode_utf8_all}
use Rattle.irtext_print.proofs.Printers.Locations.{enclosed}
use Rattle.irtext_print_ops.specs.Listed.{list_text, texts_of}
use Rattle.irtext_print_ops.proofs.ListTexts.{nothing_listed}
use Rattle.irtext_print_ops.proofs.printer.Printer.fmt_enclosed.Goals as goal

pub returns-then-count-eq0-clause-text : goal.returns-then-count-eq0-clause-text
returns-then-count-eq0-clause-text g c =
    let none = nothing_listed (texts_of g.T.IrText.written c.args.self.ctx.now c.args.listed) (sym c.count.ensures ∙ c.if-count-eq0.true) in
    let begun = string_bytes c.args.f.now ++ c.args.before.now in
    enclosed c.args.before.now [] c.args.after.now (string_bytes c.args.f.now) begun begun (string_bytes c.push_str.new.text) c.requires.before c.requires.after refl (sym (append-nil begun))
    (c.in_ok-push_str.ensures.bytes ∙ ap (λ z. string_bytes c.args.f.now ++ z) c.requires.joined ∙ sym (append_assoc (string_bytes c.args.f.now) c.args.before.now c.args.after.now))
    ∙ ap (λ z. string_bytes c.args.f.now ++ encode_utf8_all (c.args.before.now ++ (z ++ c.args.after.now))) (sym none)

pub returns-clause-text : goal.returns-clause-text
returns-clause-text g c =
    enclosed c.args.before.now (list_text g.T.IrText.written c.args.self.ctx.now c.args.listed 0) c.args.after.now
    (string_bytes c.args.f.now) (string_bytes c.push_str-2.new.text) (string_bytes c.fmt_listed.new.f) (string_bytes c.push_str-3.new.text) c.requires.before c.requires.after
    c.in_ok-push_str-2.ensures.bytes c.in_ok-fmt_listed.ensures.text c.in_ok-push_str-3.ensures.bytes
