use Rattle.std.proofs.Common.{◌≡◌, ◌≢◌, ◌∙◌, ◌∷◌, sym, ap, Some}
use Rattle.irtext_graph.specs.Graph.{parent}
use Rattle.irtext_graph.proofs.Inside.{within_on}
use Rattle.irtext_walks.proofs.Afters.{post_end, post_beside, post_none, there_beside}
use Rattle.irtext_walks.proofs.Forests.{holder_of, holder_inside}
use Rattle.irtext_walks.specs.Postorder.{post_after}
use Rattle.irtext_walks.proofs.postorder.next_in_postorder.Goals as goal

pub returns-then-is_same-clause-next : goal.returns-then-is_same-clause-next
returns-then-is_same-clause-next g c =
    let graph = c.args.graph.now in
    let same = c.is_same.ensures.0 c.if-is_same.true in
    ap (λ ys. c.args.at ∷ ys) (ap (λ q. post_after graph c.args.root (Some q)) same ∙ post_end graph c.keeps_nesting.ensures.forest c.args.root)

pub unreachable-requires : goal.unreachable-requires
unreachable-requires g c =
    let ne : c.args.at ≢ c.args.root = λ e. let yes = c.is_same.ensures.1 e in let no = c.if-is_same.false in absurd (cc) in
    let p = holder_of c.args.graph.now c.args.root c.args.at c.requires.within ne in
    c.in_default.not-Some p.0 (c.get_parent.ensures.parent ∙ p.1)

pub returns-in-Some-child_after-clause-next : goal.returns-in-Some-child_after-clause-next
returns-in-Some-child_after-clause-next g c =
    let graph = c.args.graph.now in
    let forest = c.keeps_nesting.ensures.forest in
    let k = c.in-Some.holder in
    let d = c.in-Some-child_after.next in
    let next = c.child_after in
    let ne : c.args.at ≢ c.args.root = λ e. let yes = c.is_same.ensures.1 e in let no = c.if-is_same.false in absurd (cc) in
    let up : parent graph c.args.at ≡ Some k = sym c.get_parent.ensures.parent ∙ c.in-Some.is in
    let w = holder_inside graph c.args.root c.args.at k c.requires.within ne up in
    let inside = there_beside graph forest c.args.root c.args.at k next.result ne up next.ensures.next d w c.in-Some-child_after.is in
    ap (λ ys. c.args.at ∷ ys) (post_beside graph forest c.args.root c.args.at k next.result ne up next.ensures.next d w c.in-Some-child_after.is
    ∙ sym (c.first_leaf.ensures.first c.args.root inside.within))

pub returns-in-Some-child_after-clause-there : goal.returns-in-Some-child_after-clause-there
returns-in-Some-child_after-clause-there g c =
    let graph = c.args.graph.now in
    let k = c.in-Some.holder in
    let d = c.in-Some-child_after.next in
    let next = c.child_after in
    let ne : c.args.at ≢ c.args.root = λ e. let yes = c.is_same.ensures.1 e in let no = c.if-is_same.false in absurd (cc) in
    let up : parent graph c.args.at ≡ Some k = sym c.get_parent.ensures.parent ∙ c.in-Some.is in
    let w = holder_inside graph c.args.root c.args.at k c.requires.within ne up in
    let inside = there_beside graph c.keeps_nesting.ensures.forest c.args.root c.args.at k next.result ne up next.ensures.next d w c.in-Some-child_after.is in
    let leaf = c.first_leaf.ensures.there in
    record { alive = leaf.alive; within = within_on (parent graph) c.args.root d c.first_leaf.result inside.within leaf.within }

pub returns-in-None-clause-next : goal.returns-in-None-clause-next
returns-in-None-clause-next g c =
    let graph = c.args.graph.now in
    let k = c.in-Some.holder in
    let next = c.child_after in
    let ne : c.args.at ≢ c.args.root = λ e. let yes = c.is_same.ensures.1 e in let no = c.if-is_same.false in absurd (cc) in
    let up : parent graph c.args.at ≡ Some k = sym c.get_parent.ensures.parent ∙ c.in-Some.is in
    ap (λ ys. c.args.at ∷ ys) (post_none graph c.keeps_nesting.ensures.forest c.args.root c.args.at k next.result ne up next.ensures.next c.in-None.is)

pub returns-in-None-clause-there : goal.returns-in-None-clause-there
returns-in-None-clause-there g c =
    let graph = c.args.graph.now in
    let k = c.in-Some.holder in
    let ne : c.args.at ≢ c.args.root = λ e. let yes = c.is_same.ensures.1 e in let no = c.if-is_same.false in absurd (cc) in
    let up : parent graph c.args.at ≡ Some k = sym c.get_parent.ensures.parent ∙ c.in-Some.is in
    record { alive = c.keeps_nesting.ensures.holders c.args.at k up; within = holder_inside graph c.args.root c.args.at k c.requires.within ne up }
