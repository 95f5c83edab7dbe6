use Rattle.std.proofs.Common.{◌∙◌, sym, ap, subst}
use Rattle.irtext_graph.specs.Throughout.{all_from}
use Rattle.irtext_walks.specs.Walks.{IsAtLive}
use Rattle.irtext_walks.proofs.Picked.{at_live, passed, picked_here, one_longer}
use Rattle.irtext_walks.proofs.steps.pick_from.Goals as goal

pub loop-at-preserved : goal.loop-at-preserved
loop-at-preserved g c =
    let graph = c.args.graph.now in
    let root = c.args.root in
    let among = g.K.Picked.among in
    let next = c.next_inside-at in
    record {
      there = at_live graph root next.result next.ensures.inside next.ensures.there;
      picked = c.loop-at.invariant.picked ∙ ap (λ a. among (all_from graph root a)) c.in-Some.is ∙ ap among next.ensures.next
          ∙ passed g.met.K.Picked.picks c.in-Some.o (all_from graph root next.result) c.pick-picked.result c.pick-picked.ensures.picked
          (sym c.is_some.ensures ∙ c.if-is_some.false);
    }

pub loop-at-smaller : goal.loop-at-smaller
loop-at-smaller g c =
    let graph = c.args.graph.now in
    let next = c.next_inside-at in
    one_longer (all_from graph c.args.root c.loop-at.at) (all_from graph c.args.root next.result) c.in-Some.o
    (ap (all_from graph c.args.root) c.in-Some.is ∙ next.ensures.next)

pub returns-then-is_some-clause-picked : goal.returns-then-is_some-clause-picked
returns-then-is_some-clause-picked g c =
    let here = picked_here g.K.Kind.object c.in-Some.o c.pick-picked.result c.pick-picked.ensures.same (sym c.is_some.ensures ∙ c.if-is_some.true) in
    c.loop-at.invariant.picked ∙ ap (λ a. g.K.Picked.among (all_from c.args.graph.now c.args.root a)) (c.in-Some.is ∙ here)

pub returns-then-is_some-clause-there : goal.returns-then-is_some-clause-there
returns-then-is_some-clause-there g c =
    let here = picked_here g.K.Kind.object c.in-Some.o c.pick-picked.result c.pick-picked.ensures.same (sym c.is_some.ensures ∙ c.if-is_some.true) in
    subst (IsAtLive c.args.graph.now c.args.root) (c.in-Some.is ∙ here) c.loop-at.invariant.there
