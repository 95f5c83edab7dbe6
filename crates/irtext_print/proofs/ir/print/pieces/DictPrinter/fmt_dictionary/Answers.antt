use Rattle.std.proofs.Common.{codes, refl, string_bytes}
use Rattle.irtext_base.specs.FormatViews.{directives_of}
use Rattle.irtext_print.specs.Printers.PieceText.{rows_text, dictionary_entries}
use Rattle.irtext_grammar.specs.Contexts.Held.{entries_of}
use Rattle.irtext_print.proofs.Printers.Locations.{enclosed}
use Rattle.irtext_print.proofs.ir.print.pieces.DictPrinter.fmt_dictionary.Goals as goal

pub returns-clause-text : goal.returns-clause-text
returns-clause-text g c =
    enclosed (codes " [") (rows_text g.A.IrText.written (dictionary_entries g.A.AttrText.outlined (directives_of c.args.self.directives.now) (entries_of c.args.self.attributes.now))) (codes "]")
    (string_bytes c.args.f.now) (string_bytes c.push_str.new.text) (string_bytes c.fmt_entries.new.f) (string_bytes c.push_str-2.new.text) refl refl
    c.in_ok-push_str.ensures.bytes c.in_ok-fmt_entries.ensures.text c.in_ok-push_str-2.ensures.bytes
