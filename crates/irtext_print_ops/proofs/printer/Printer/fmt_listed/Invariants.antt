use Rattle.std.proofs.Common.{◌≡◌, ◌++◌, ◌&&◌, drop, string_bytes}
use Rattle.std.specs.Str.{encode_utf8_all}
use Rattle.irtext_base.specs.Appending.{OnlyAppends}
use Rattle.irtext_grammar.specs.Contexts.Held.{known_types}
use Rattle.irtext_print.proofs.Printers.Locations.{left_text}
use Rattle.irtext_print_ops.specs.Listed.{are_none, list_text, texts_of}
use Rattle.irtext_print_ops.proofs.printer.Printer.fmt_listed.Given as goal

-- the text was only appended to; what is written, and then the items that are left, is all
abbrev pub invariant-loop-index : goal.invariant-loop-index
invariant-loop-index g l = record {
  appends : OnlyAppends l.fn.f l.f;
  text : string_bytes l.f ++ encode_utf8_all (left_text l.first (known_types (drop l.index (texts_of g.T.IrText.written l.self.ctx.now l.listed))))
      ≡ string_bytes l.fn.f ++ encode_utf8_all (list_text g.T.IrText.written l.self.ctx.now l.listed l.from);
  none : (l.first && are_none (known_types (drop l.index (texts_of g.T.IrText.written l.self.ctx.now l.listed)))) ≡ are_none (known_types (drop l.from (texts_of g.T.IrText.written l.self.ctx.now l.listed)));
}
