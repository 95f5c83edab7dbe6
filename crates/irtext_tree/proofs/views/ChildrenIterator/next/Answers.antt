use Rattle.std.proofs.Common.{◌≡◌, ◌∙◌, true, ap, subst, sym}
use Rattle.irtext_tree.specs.Rows.{Filled, at_tree, children_in}
use Rattle.irtext_tree.specs.Views.{children_left}
use Rattle.irtext_tree.proofs.Fronts.{begun_enough, begun_left, begun_tree, first_child, goes_on}
use Rattle.irtext_tree.proofs.views.ChildrenIterator.next.Goals as goal

pub tree_len-requires : goal.tree_len-requires
tree_len-requires g c =
    let growth = g.S.Grows.growth in
    let head = c.in-Some.head.now in
    let rest = c.in-Some.rest.now in
    let parts = c.in-Some.ensures.cases.0 in
    let begins : growth.same growth.start (growth.place head) ≡ true = subst (λ z. at_tree growth z ≡ true) parts c.from_tree-heads.ensures.begins in
    let filled = subst (λ z. ∥ Filled growth z ∥₁) parts (c.from_tree-heads.ensures.filled c.args.self.now.filled) in
    begun_enough growth head rest filled begins

pub invariant_of-self-2 : goal.invariant_of-self-2
invariant_of-self-2 g c =
    let growth = g.S.Grows.growth in
    let head = c.in-Some.head.now in
    let rest = c.in-Some.rest.now in
    let parts = c.in-Some.ensures.cases.0 in
    let begins : growth.same growth.start (growth.place head) ≡ true = subst (λ z. at_tree growth z ≡ true) parts c.from_tree-heads.ensures.begins in
    let filled = subst (λ z. ∥ Filled growth z ∥₁) parts (c.from_tree-heads.ensures.filled c.args.self.now.filled) in
    let left = c.split_at.ensures.back ∙ c.tree_len.ensures.after in
    record { filled = begun_left growth head rest c.split_at.result.1.now left filled begins }

pub invariant_of-result : goal.invariant_of-result
invariant_of-result g c =
    let growth = g.S.Grows.growth in
    let head = c.in-Some.head.now in
    let rest = c.in-Some.rest.now in
    let parts = c.in-Some.ensures.cases.0 in
    let begins : growth.same growth.start (growth.place head) ≡ true = subst (λ z. at_tree growth z ≡ true) parts c.from_tree-heads.ensures.begins in
    let filled = subst (λ z. ∥ Filled growth z ∥₁) parts (c.from_tree-heads.ensures.filled c.args.self.now.filled) in
    let own = c.split_at.ensures.front ∙ c.tree_len.ensures.front in
    record { whole = begun_tree growth head rest c.split_at.result.0.now own filled begins }

pub returns-clause-steps : goal.returns-clause-steps
returns-clause-steps g c =
    let growth = g.S.Grows.growth in
    let head = c.in-Some.head.now in
    let rest = c.in-Some.rest.now in
    let parts = c.in-Some.ensures.cases.0 in
    let begins : growth.same growth.start (growth.place head) ≡ true = subst (λ z. at_tree growth z ≡ true) parts c.from_tree-heads.ensures.begins in
    let own = c.split_at.ensures.front ∙ c.tree_len.ensures.front in
    let left = c.split_at.ensures.back ∙ c.tree_len.ensures.after in
    sym c.from_tree-heads.ensures.same ∙ (ap (children_in growth) parts ∙ first_child growth head rest c.split_at.result.0.now c.split_at.result.1.now begins own left)

pub returns-clause-goes : goal.returns-clause-goes
returns-clause-goes g c =
    let growth = g.S.Grows.growth in
    let head = c.in-Some.head.now in
    let rest = c.in-Some.rest.now in
    let parts = c.in-Some.ensures.cases.0 in
    let begins : growth.same growth.start (growth.place head) ≡ true = subst (λ z. at_tree growth z ≡ true) parts c.from_tree-heads.ensures.begins in
    let own = c.split_at.ensures.front ∙ c.tree_len.ensures.front in
    let left = c.split_at.ensures.back ∙ c.tree_len.ensures.after in
    goes_on _ (λ _. tt) (children_left g.S.Grows) _ _ _ _ (sym c.from_tree-heads.ensures.same ∙ (ap (children_in growth) parts ∙ first_child growth head rest c.split_at.result.0.now c.split_at.result.1.now begins own left))
