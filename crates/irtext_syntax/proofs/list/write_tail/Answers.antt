use Rattle.std.proofs.Common.{◌∙◌, [], ◌∷◌, ◌+◌, ◌++◌, drop, refl, sym, ap, append_assoc, string_bytes}
use Rattle.std.proofs.lemmas.List.{drop_more}
use Rattle.std.specs.Char.{encode_utf8}
use Rattle.irtext_base.proofs.OnlyAppended.{appends_next, appends_nothing}
use Rattle.irtext_syntax.proofs.ListWritten.{next_written}
use Rattle.irtext_syntax.proofs.list.write_tail.Goals as goal

pub loop-item-init : goal.loop-item-init
loop-item-init g c = (refl, appends_nothing refl)

pub loop-item-preserved : goal.loop-item-preserved
loop-item-preserved g c =
    let mark = c.in_ok-push_str.ensures.bytes ∙ ap (λ z. z ++ 32 ∷ []) c.in_ok-push.ensures.bytes ∙ append_assoc (string_bytes c.loop-item.f) (encode_utf8 c.args.separator) (32 ∷ []) in (
      next_written c.args.separator g.P.Part.text.written c.item-item.result (drop (c.loop-item.item-index + 1) c.args.items.now) (drop c.loop-item.item-index c.args.items.now) (string_bytes c.loop-item.f) (string_bytes c.push_str.new.text) (string_bytes c.write_text.new.f) _
          (drop_more c.args.items.now c.loop-item.item-index c.item-item.result c.loop-item-test.true ∙ ap (λ z. z ∷ drop (c.loop-item.item-index + 1) c.args.items.now) (sym c.item-item.is))
          mark c.in_ok-write_text.ensures.text c.loop-item.invariant.0,
      appends_next (appends_next {new = c.push_str.new.text} c.loop-item.invariant.1 _ mark) _ c.in_ok-write_text.ensures.text,
    )
