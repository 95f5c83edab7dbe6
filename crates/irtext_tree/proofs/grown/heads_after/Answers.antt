use Rattle.std.proofs.Common.{◌∷◌, [], sym, ◌∙◌, ap, reverse, subst}
use Rattle.std.proofs.lemmas.List.{reverse-append}
use Rattle.irtext_tokens.proofs.Exits.{propagated}
use Rattle.irtext_tree.proofs.Growing.{Growing, growing_starts, growing_refused, growing_more, growing_smaller}
use Rattle.irtext_tree.specs.Growths.{waiting}
use Rattle.irtext_tree.proofs.grown.heads_after.Goals as goal

pub loop-place-init : goal.loop-place-init
loop-place-init g c =
    growing_starts g.S.Grows.growth g.S.Grammar.reading c.args.first c.args.stream.now _ _ (sym c.has_failed.ensures ∙ c.if-has_failed.false)
    ((rw c.new-left.ensures.items at c.in-Ok.ensures) ∙ ap (λ w. waiting w []) c.waits.ensures)
    (ap (λ z. c.args.first ∷ z) c.new-found.ensures.items)

pub returns-in_err-head : goal.returns-in_err-head
returns-in_err-head g c =
    let e = ap reverse c.in-Some.ensures.items ∙ reverse-append c.pop.new.self.items (c.in-Some.place ∷ []) in
    let f = subst (λ z. Growing g.S.Grows.growth g.S.Grammar.reading c.args.first c.args.stream.now c.loop-place.stream z (c.args.first ∷ c.loop-place.found.items)) e c.loop-place.invariant in
    rw (propagated c.from_residual.result c.from_residual.ensures.1) (growing_refused g.S.Grows.growth g.S.Grammar.reading c.args.first f c.in_err-head.ensures)

pub loop-place-preserved : goal.loop-place-preserved
loop-place-preserved g c =
    let e = ap reverse c.in-Some.ensures.items ∙ reverse-append c.pop.new.self.items (c.in-Some.place ∷ []) in
    let f = subst (λ z. Growing g.S.Grows.growth g.S.Grammar.reading c.args.first c.args.stream.now c.loop-place.stream z (c.args.first ∷ c.loop-place.found.items)) e c.loop-place.invariant in
    growing_more g.S.Grows.growth g.S.Grammar.reading c.args.first g.met.S.Grammar.sound.sincere g.met.S.Grammar.sound.advances f c.in_ok-head.ensures c.in-Ok-take_head.ensures.waits (ap (λ z. c.args.first ∷ z) c.in-Ok-take_head.ensures.found)

pub loop-place-smaller : goal.loop-place-smaller
loop-place-smaller g c =
    let e = ap reverse c.in-Some.ensures.items ∙ reverse-append c.pop.new.self.items (c.in-Some.place ∷ []) in
    growing_smaller g.S.Grows.growth g.S.Grammar.reading c.args.first g.met.S.Grammar.sound.sincere g.met.S.Grammar.sound.advances e c.in_ok-head.ensures c.in-Ok-take_head.ensures.waits
