use Rattle.std.proofs.Common.{◌∙◌, ◌+◌, ◌++◌, refl, ap, string_bytes}
use Rattle.std.specs.Str.{encode_utf8_all}
use Rattle.irtext_base.proofs.OnlyAppended.{appends_nothing, appends_next}
use Rattle.irtext_grammar.specs.Spelling.Section.{once_texts}
use Rattle.irtext_print.specs.Printers.PieceText.{words}
use Rattle.irtext_print.specs.Entries.{once_text}
use Rattle.irtext_print.specs.Mentions as mentions
use Rattle.irtext_print.proofs.Texts.{referred, once_none, once_more, once_end}
use Rattle.irtext_print.proofs.mentions.Mentions.fmt_all_once.Goals as goal

pub loop-place-init : goal.loop-place-init
loop-place-init g c = (
  once_none (words g.A.IrText.written) (mentions.asking g.A.AttrText.print_once g.A.PartialEq.eq) c.args.self.now.items c.as_slice-attrs.result.now (string_bytes c.args.f.now),
  appends_nothing refl,
)

pub loop-place-preserved : goal.loop-place-preserved
loop-place-preserved g c =
    let W = words g.A.IrText.written in
    let C = mentions.asking g.A.AttrText.print_once g.A.PartialEq.eq in
    let rs = c.as_slice-attrs.result.now in
    let one = c.in_ok-fmt_once.ensures.text ∙ ap (λ r. string_bytes c.loop-place.f ++ encode_utf8_all (once_text g.A.IrText.written (c.args.self.now.items + c.loop-place.place) r.now)) c.index-attrs-place.is in (
      once_more W C c.args.self.now.items c.loop-place.place rs c.index-attrs-place.result (string_bytes c.loop-place.f) (string_bytes c.fmt_once.new.f)
          (string_bytes c.args.f.now ++ encode_utf8_all (once_texts W C c.args.self.now.items (referred rs))) c.loop-place-test.true
          one c.loop-place.invariant.0,
      appends_next c.loop-place.invariant.1 _ c.in_ok-fmt_once.ensures.text,
    )

pub returns-clause-text : goal.returns-clause-text
returns-clause-text g c =
    let W = words g.A.IrText.written in
    let C = mentions.asking g.A.AttrText.print_once g.A.PartialEq.eq in
    let rs = c.as_slice-attrs.result.now in
    once_end W C c.args.self.now.items c.loop-place.place rs (string_bytes c.loop-place.f) (string_bytes c.args.f.now ++ encode_utf8_all (once_texts W C c.args.self.now.items (referred rs))) c.loop-place-test.false c.loop-place.invariant.0
    ∙ ap (λ ks. string_bytes c.args.f.now ++ encode_utf8_all (once_texts W C c.args.self.now.items (referred ks))) c.as_slice-attrs.ensures.keys
