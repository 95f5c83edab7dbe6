use Rattle.std.proofs.Common.{◌≡◌, ℕ, refl, ap, arith, subst, length, Some}
use Rattle.irtext_graph.specs.Throughout.{all_from}
use Rattle.irtext_graph.proofs.Going.{Going, going_begins, going_shrinks, going_on}
use Rattle.irtext_tests_graph.proofs.tests.walks.overwrite.Goals as goal

abbrev seven : ℕ → ℕ
seven _ = 7

pub loop-at-init : goal.loop-at-init
loop-at-init c = record { so_far = going_begins seven seven c.args.graph.now c.args.o c.requires c.keeps_nesting.ensures.all }

pub loop-at-smaller : goal.loop-at-smaller
loop-at-smaller c =
    let d = subst (Going seven seven c.args.graph.now c.loop-at.graph c.args.o) c.in-Some.is c.loop-at.invariant.so_far in
    let less = going_shrinks seven seven (λ x. refl) (λ x. refl) c.args.graph.now c.loop-at.graph c.overwrite_one.new.graph c.args.o c.in-Some.q c.next_inside-at.result d c.next_inside-at.ensures.next in
    let same : length (all_from c.args.graph.now c.args.o c.loop-at.at) ≡ length (all_from c.args.graph.now c.args.o (Some c.in-Some.q)) = ap (λ r. length (all_from c.args.graph.now c.args.o r)) c.in-Some.is in
    omega (arith, less, same)

pub loop-at-preserved : goal.loop-at-preserved
loop-at-preserved c =
    let d = subst (Going seven seven c.args.graph.now c.loop-at.graph c.args.o) c.in-Some.is c.loop-at.invariant.so_far in
    let n = c.next_inside-at.ensures in
    record { so_far = going_on seven seven (λ x. refl) (λ x. refl) c.args.graph.now c.loop-at.graph c.overwrite_one.new.graph c.args.o c.in-Some.q c.next_inside-at.result d n.next n.inside n.there c.overwrite_one.ensures }
