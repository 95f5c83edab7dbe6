use Rattle.std.proofs.Common.{codes, refl, string_bytes}
use Rattle.irtext_print.proofs.Printers.Locations.{worded}
use Rattle.irtext_print.proofs.Printers.PieceTexts.{identifier_appended}
use Rattle.irtext_print.proofs.entries.fmt_label.Goals as goal

pub returns-clause-text : goal.returns-clause-text
returns-clause-text c =
    worded (string_bytes c.args.f.now) (string_bytes c.push_str.new.text) (string_bytes c.push_str-2.new.text) (codes "builtin_block_label = builtin.identifier ") c.args.label.now refl c.in_ok-push_str.ensures.bytes
    (identifier_appended c.args.label.now c.as_str.result.now (string_bytes c.push_str.new.text) (string_bytes c.push_str-2.new.text) c.as_str.ensures.fits c.as_str.ensures.text c.in_ok-push_str-2.ensures.bytes)
