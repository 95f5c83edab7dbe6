use Rattle.std.proofs.Common.{string_bytes}
use Rattle.irtext_print.proofs.Texts.{once_appended}
use Rattle.irtext_print.proofs.section.fmt_once.Goals as goal

pub returns-clause-text : goal.returns-clause-text
returns-clause-text g c =
    once_appended g.A.IrText.written c.args.index c.args.attr.now (string_bytes c.args.f.now) (string_bytes c.push_str.new.text) (string_bytes c.fmt_number.new.f) (string_bytes c.push_str-2.new.text) (string_bytes c.write_text.new.f)
    (string_bytes c.push_str-3.new.text) c.in_ok-push_str.ensures.bytes c.in_ok-fmt_number.ensures.text c.in_ok-push_str-2.ensures.bytes c.in_ok-write_text.ensures.text c.in_ok-push_str-3.ensures.bytes
