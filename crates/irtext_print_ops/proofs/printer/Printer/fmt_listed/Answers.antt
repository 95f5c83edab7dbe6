use Rattle.std.proofs.Common.{◌<◌, ◌≤◌, ◌++◌, arith, drop, length, refl, string_bytes}
use Rattle.std.specs.Str.{encode_utf8_all}
use Rattle.irtext_base.proofs.OnlyAppended.{appends_next, appends_nothing}
use Rattle.irtext_grammar.specs.Contexts.Held.{known_types}
use Rattle.irtext_print_ops.specs.Listed.{are_none, list_text, texts_of}
use Rattle.irtext_print_ops.proofs.ListTexts.{item_written, all_written, none_next, none_at_all}
use Rattle.irtext_print_ops.proofs.printer.Printer.fmt_listed.Goals as goal

pub loop-index-init : goal.loop-index-init
loop-index-init g c = record { appends = appends_nothing refl; text = refl; none = refl }

pub loop-index-preserved : goal.loop-index-preserved
loop-index-preserved g c =
    let texts = texts_of g.T.IrText.written c.args.self.ctx.now c.args.listed in
    let less : c.loop-index.index < length (texts_of g.T.IrText.written c.args.self.ctx.now c.args.listed) = omega (arith, c.count-index-end.ensures, c.loop-index-test.true) in
    record {
      appends = appends_next c.loop-index.invariant.appends _ c.in_ok-first.ensures.text;
      text = item_written texts c.loop-index.index c.loop-index.first c.in_ok-first.first (string_bytes c.loop-index.f) (string_bytes c.fmt_item.new.f)
          (string_bytes c.args.f.now ++ encode_utf8_all (list_text g.T.IrText.written c.args.self.ctx.now c.args.listed c.args.from)) less c.in_ok-first.ensures.text c.in_ok-first.ensures.left c.loop-index.invariant.text;
      none = none_next texts c.loop-index.index c.loop-index.first c.in_ok-first.first (are_none (known_types (drop c.args.from texts))) less c.in_ok-first.ensures.left c.loop-index.invariant.none;
    }

pub returns : goal.returns
returns g c =
    let texts = texts_of g.T.IrText.written c.args.self.ctx.now c.args.listed in
    let past : length (texts_of g.T.IrText.written c.args.self.ctx.now c.args.listed) ≤ c.loop-index.index = omega (arith, c.count-index-end.ensures, c.loop-index-test.false) in
    record {
      text = all_written texts c.loop-index.index c.loop-index.first (string_bytes c.loop-index.f)
          (string_bytes c.args.f.now ++ encode_utf8_all (list_text g.T.IrText.written c.args.self.ctx.now c.args.listed c.args.from)) past c.loop-index.invariant.text;
      none = none_at_all texts c.loop-index.index c.loop-index.first (are_none (known_types (drop c.args.from texts))) past c.loop-index.invariant.none;
      appended = tt;
    }
