use Rattle.std.proofs.Common.{◌∙◌, ◌∷◌, ◌+◌, drop, sym, ap, string_bytes}
use Rattle.std.proofs.lemmas.List.{drop_more}
use Rattle.irtext_base.proofs.OnlyAppended.{appends_next, appends_this}
use Rattle.irtext_print.proofs.Printers.AttrTexts.{names_first, names_next}
use Rattle.irtext_print.proofs.printable.attributes.fmt_names.Goals as goal

pub loop-name-init : goal.loop-name-init
loop-name-init c = (
  names_first c.args.names.now c.in-Some.rest.now c.in-Some.first.now (string_bytes c.args.f.now) (string_bytes c.fmt_name.new.f) c.in-Some.ensures.cases.0 c.in_ok-fmt_name.ensures.text,
  appends_this _ c.in_ok-fmt_name.ensures.text,
)

pub loop-name-preserved : goal.loop-name-preserved
loop-name-preserved c = (
  names_next _ _ c.name-item.result (string_bytes c.loop-name.f) (string_bytes c.push_str.new.text) (string_bytes c.fmt_name-in-loop-name.new.f) _ (drop_more c.in-Some.rest.now c.loop-name.name-index c.name-item.result c.loop-name-test.true ∙ ap (λ z. z ∷ drop (c.loop-name.name-index + 1) c.in-Some.rest.now) (sym c.name-item.is)) c.in_ok-push_str.ensures.bytes c.in_ok-fmt_name-2.ensures.text c.loop-name.invariant.0,
  appends_next (appends_next {new = c.push_str.new.text} c.loop-name.invariant.1 _ c.in_ok-push_str.ensures.bytes) _ c.in_ok-fmt_name-2.ensures.text,
)
