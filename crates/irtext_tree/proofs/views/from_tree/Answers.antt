use Rattle.std.proofs.Common.{◌≡◌, ◌∙◌, false, ap, subst, sym}
use Rattle.irtext_tree.specs.Rows.{Filled, children_in}
use Rattle.irtext_tree.proofs.Fronts.{no_child, without_first}
use Rattle.irtext_tree.proofs.views.from_tree.Goals as goal

pub loop-head-preserved : goal.loop-head-preserved
loop-head-preserved g c =
    let growth = g.S.Grows.growth in
    let head = c.in-Some.head.now in
    let rest = c.in-Some.rest.now in
    let parts = c.in-Some.ensures.cases.0 in
    let no : growth.same growth.start (growth.place head) ≡ false = ap (λ z. growth.same z (growth.place head)) (sym c.start.ensures) ∙ (sym c.takes.ensures ∙ c.if-takes.false) in (
      sym (no_child growth head rest no) ∙ (ap (children_in growth) (sym parts) ∙ c.loop-head.invariant.0),
      λ f. without_first growth head rest (subst (λ z. ∥ Filled growth z ∥₁) parts (c.loop-head.invariant.1 f)),
    )
