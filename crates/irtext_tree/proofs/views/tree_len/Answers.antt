use Rattle.std.proofs.Common.{◌≡◌, ◌+◌, ◌-◌, ◌∷◌, ◌∙◌, drop, ap, sym, arith, length-drop}
use Rattle.std.proofs.lemmas.List.{drop_more}
use Rattle.irtext_tree.specs.Rows.{count}
use Rattle.irtext_tree.proofs.Fronts.{cut_fits, cut_more}
use Rattle.irtext_tree.proofs.views.tree_len.Goals as goal

pub overflow_add-waiting : goal.overflow_add-waiting
overflow_add-waiting g c =
    let heads = c.args.heads.now in
    let k = c.loop-taken.taken in
    let head = c.index-heads-taken.result in
    let n = c.number_of-len.ensures in
    let below = c.loop-taken-test.true in
    let here : drop k heads ≡ head ∷ drop (k + 1) heads = drop_more heads k head (omega (arith, n, below)) ∙ ap (λ z. z ∷ drop (k + 1) heads) (sym c.index-heads-taken.is) in
    let waits = c.count.ensures ∙ ap count c.waits-in-loop-taken.ensures in
    let fits = cut_fits g.S.Grows.growth (cut_more g.S.Grows.growth head (c.loop-taken.waiting - 1 + c.count.result) (k + 1) c.loop-taken.invariant here (omega arith) c.if-waiting-eq0.false (ap (λ z. c.loop-taken.waiting - 1 + z) waits)) in
    omega (arith, fits, length-drop (k + 1) heads, n, c.number_of-len.type_inv)
