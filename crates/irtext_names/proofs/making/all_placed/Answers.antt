use Rattle.std.proofs.Common.{◌∙◌, ◌++◌, ◌∷◌, [], sym, ap, append-nil, append_assoc, arith}
use Rattle.irtext_names.proofs.Ordering.{none_left}
use Rattle.irtext_names.proofs.making.all_placed.Goals as goal

pub loop-item-preserved : goal.loop-item-preserved
loop-item-preserved g c =
    let all = c.loop-item.all.items in
    let rest = c.next.new.self.rest.items in
    ap (λ xs. xs ++ rest) c.in_default.ensures.items
    ∙ (append_assoc all (c.in-Some.item ∷ []) rest ∙ (ap (λ xs. all ++ xs) (sym c.in-Some.ensures.steps.0) ∙ c.loop-item.invariant))

pub returns : goal.returns
returns g c =
    let l = c.loop-item in
    let none = none_left l.item-iterator.rest.items (omega (arith, c.in-None.ensures.steps.0, l.item-iterator.rest.ok.0)) in
    sym (append-nil l.all.items) ∙ (ap (λ xs. l.all.items ++ xs) (sym none) ∙ l.invariant)
