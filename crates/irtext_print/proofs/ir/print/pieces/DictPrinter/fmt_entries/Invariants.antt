use Rattle.std.proofs.Common.{◌≡◌, ◌++◌, map, string_bytes}
use Rattle.std.specs.Str.{encode_utf8_all}
use Rattle.irtext_base.specs.Appending.{OnlyAppends}
use Rattle.irtext_base.specs.FormatViews.{directives_of}
use Rattle.irtext_context.specs.Entries.{entries_left}
use Rattle.irtext_print.specs.Printers.PieceText.{entry_text, dictionary_entries, rows_text}
use Rattle.irtext_grammar.specs.Contexts.Held.{entries_of}
use Rattle.irtext_print.proofs.Printers.Locations.{left_text}
use Rattle.irtext_print.proofs.ir.print.pieces.DictPrinter.fmt_entries.Given as goal

-- what is written, and then the rest, is all; the text was only appended to
abbrev pub invariant-loop-key : goal.invariant-loop-key
invariant-loop-key g l =
    (string_bytes l.f ++ encode_utf8_all (left_text l.first (map (entry_text g.A.IrText.written) (dictionary_entries g.A.AttrText.outlined (directives_of l.self.directives.now) (entries_of (entries_left l.key-iterator)))))
    ≡ string_bytes l.fn.f ++ encode_utf8_all (rows_text g.A.IrText.written (dictionary_entries g.A.AttrText.outlined (directives_of l.self.directives.now) (entries_of l.self.attributes.now))))
    × OnlyAppends l.fn.f l.f
