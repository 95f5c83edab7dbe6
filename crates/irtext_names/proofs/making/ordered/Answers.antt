use Rattle.std.proofs.Common.{◌≡◌, ◌∙◌, ◌++◌, ◌-◌, length, sym, ap, append-nil, option_to_list, arith}
use Rattle.irtext_grammar.specs.Grammar.Tree.{in_order, in_order_from}
use Rattle.irtext_names.proofs.Ordering.{next_taken}
use Rattle.irtext_names.proofs.making.ordered.Goals.{in-Some+in_ok-push, in_default}
use Rattle.irtext_names.proofs.making.ordered.Goals as goal

pub loop-place-preserved : goal.loop-place-preserved
loop-place-preserved g c =
    let all = c.loop-place.all.items in
    let es = c.loop-place.items.items in
    let n = c.args.items.ok.0 in
    let e = c.len-place-end.ensures in
    let t = c.loop-place-test.true in
    next_taken (length c.args.items.items) c.loop-place.place all c.match-taken.all.items (in_order c.args.items.items) es c.taken.new.items.items (omega (arith, n, e, t)) c.taken.ensures.others c.loop-place.invariant
    (elim c.match-taken.branch [
      | in-Some+in_ok-push w ↦ ap (λ v. v.items) w.all-is ∙ (w.in_ok-push.ensures.items ∙ ap (λ o. all ++ option_to_list o) (sym w.in-Some.is ∙ c.taken.ensures.value))
      | in_default w ↦ ap (λ v. v.items) w.all-is ∙ (sym (append-nil all) ∙ ap (λ o. all ++ option_to_list o) (sym w.in_default.is ∙ c.taken.ensures.value))
    ])

pub returns : goal.returns
returns g c =
    let l = c.loop-place in
    let all = l.all.items in
    let none : length c.args.items.items - l.place ≡ 0 = omega (arith, c.args.items.ok.0, c.len-place-end.ensures, c.loop-place-test.false) in
    sym (append-nil all) ∙ (ap (λ n. all ++ in_order_from n l.place l.items.items) (sym none) ∙ l.invariant)
