use Rattle.std.proofs.Common.{◌++◌, ◌∙◌, refl, sym, ap, string_bytes}
use Rattle.std.specs.Str.{encode_utf8_all}
use Rattle.irtext_base.proofs.OnlyAppended.{appends_nothing, appends_next}
use Rattle.irtext_base.specs.FormatViews.{directives_of}
use Rattle.irtext_context.specs.Entries.{entries_left}
use Rattle.irtext_print.specs.Printers.PieceText.{rows_text, dictionary_entries}
use Rattle.irtext_grammar.specs.Contexts.Held.{entries_of}
use Rattle.irtext_print.proofs.Printers.PieceTexts.{row_more, row_same, rows_end}
use Rattle.irtext_print.proofs.ir.print.pieces.DictPrinter.fmt_entries.Goals as goal

pub loop-key-init : goal.loop-key-init
loop-key-init g c = (
  ap (λ z. string_bytes c.args.f.now ++ encode_utf8_all (rows_text g.A.IrText.written (dictionary_entries g.A.AttrText.outlined (directives_of c.args.self.directives.now) (entries_of z))))
      (ap entries_left c.into_iter-key-iterator.ensures.into_iter_gives ∙ c.iter-key-items.ensures),
  appends_nothing refl,
)

pub loop-key-preserved-then-is_listed : goal.loop-key-preserved-then-is_listed
loop-key-preserved-then-is_listed g c = (
  row_more g.A.IrText.written g.A.AttrText.outlined (directives_of c.args.self.directives.now) c.in-Some.key.now c.in-Some.attr.now (entries_left c.next.new.self) (entries_left c.loop-key.key-iterator) c.loop-key.first
      (string_bytes c.loop-key.f) (string_bytes c.fmt_entry.new.f) (string_bytes c.args.f.now ++ encode_utf8_all (rows_text g.A.IrText.written (dictionary_entries g.A.AttrText.outlined (directives_of c.args.self.directives.now) (entries_of c.args.self.attributes.now))))
      c.in-Some.ensures.steps (sym c.is_listed.ensures ∙ c.if-is_listed.true) c.in_ok-fmt_entry.ensures.text c.loop-key.invariant.0,
  appends_next c.loop-key.invariant.1 _ c.in_ok-fmt_entry.ensures.text,
)

pub loop-key-preserved : goal.loop-key-preserved
loop-key-preserved g c = (
  row_same g.A.IrText.written g.A.AttrText.outlined (directives_of c.args.self.directives.now) c.in-Some.key.now c.in-Some.attr.now (entries_left c.next.new.self) (entries_left c.loop-key.key-iterator) c.loop-key.first
      (string_bytes c.loop-key.f) (string_bytes c.args.f.now ++ encode_utf8_all (rows_text g.A.IrText.written (dictionary_entries g.A.AttrText.outlined (directives_of c.args.self.directives.now) (entries_of c.args.self.attributes.now))))
      c.in-Some.ensures.steps (sym c.is_listed.ensures ∙ c.if-is_listed.false) c.loop-key.invariant.0,
  c.loop-key.invariant.1,
)

pub returns-clause-text : goal.returns-clause-text
returns-clause-text g c =
    rows_end g.A.IrText.written g.A.AttrText.outlined (directives_of c.args.self.directives.now) (entries_left c.loop-key.key-iterator) c.loop-key.first (string_bytes c.loop-key.f)
    (string_bytes c.args.f.now ++ encode_utf8_all (rows_text g.A.IrText.written (dictionary_entries g.A.AttrText.outlined (directives_of c.args.self.directives.now) (entries_of c.args.self.attributes.now))))
    c.in-None.ensures.steps.0 c.loop-key.invariant.0
