use Rattle.std.proofs.Common.{◌∙◌, ◌∷◌, ◌+◌, drop, refl, sym, ap, string_bytes}
use Rattle.std.proofs.lemmas.List.{drop_more}
use Rattle.irtext_base.proofs.OnlyAppended.{appends_next, appends_nothing}
use Rattle.irtext_tree.proofs.Written.{next_head}
use Rattle.irtext_tree.proofs.grown.write_heads.Goals as goal

pub loop-head-init : goal.loop-head-init
loop-head-init g c = (refl, appends_nothing refl)

pub loop-head-preserved : goal.loop-head-preserved
loop-head-preserved g c = (
  next_head g.S.Grammar.written c.head-item.result (drop (c.loop-head.head-index + 1) c.args.heads.now) (drop c.loop-head.head-index c.args.heads.now) (string_bytes c.loop-head.f) (string_bytes c.write_head.new.f) _
      (drop_more c.args.heads.now c.loop-head.head-index c.head-item.result c.loop-head-test.true ∙ ap (λ z. z ∷ drop (c.loop-head.head-index + 1) c.args.heads.now) (sym c.head-item.is))
      c.in_ok-write_head.ensures.text c.loop-head.invariant.0,
  appends_next c.loop-head.invariant.1 _ c.in_ok-write_head.ensures.text,
)
