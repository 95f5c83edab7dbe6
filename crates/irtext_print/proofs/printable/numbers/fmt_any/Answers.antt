use Rattle.std.proofs.Common.{string_bytes}
use Rattle.irtext_print.proofs.Printers.Appended.{number_appended}
use Rattle.irtext_print.proofs.printable.numbers.fmt_any.Goals as goal

pub returns-clause-text : goal.returns-clause-text
returns-clause-text g c = number_appended (g.I.Integer.text c.args.number) c.format.result.now (string_bytes c.args.f.now) (string_bytes c.push_str.new.text) c.format.ensures.text c.format.ensures.ascii c.in_ok-push_str.ensures.bytes
