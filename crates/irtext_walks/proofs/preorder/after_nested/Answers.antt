use Rattle.std.proofs.Common.{◌≡◌, ◌≢◌, ◌∙◌, sym, arith, Some}
use Rattle.irtext_graph.specs.Graph.{parent}
use Rattle.irtext_walks.proofs.Afters.{found_next, found_there, found_none, found_end}
use Rattle.irtext_walks.proofs.Forests.{holder_of, holder_inside, one_deeper}
use Rattle.irtext_walks.proofs.preorder.after_nested.Goals as goal

pub unreachable-requires : goal.unreachable-requires
unreachable-requires g c =
    let ne : c.loop-root.past ≢ c.args.root = λ e. let yes = c.is_same.ensures.1 e in let no = c.loop-root-test.true in absurd (cc) in
    let p = holder_of c.args.graph.now c.args.root c.loop-root.past c.loop-root.invariant.within ne in
    c.in_default.not-Some p.0 (c.get_parent.ensures.parent ∙ p.1)

pub returns-then-is_some-clause-next : goal.returns-then-is_some-clause-next
returns-then-is_some-clause-next g c =
    let graph = c.args.graph.now in
    let root = c.args.root in
    let past = c.loop-root.past in
    let k = c.in-Some.holder in
    let next = c.child_after-next in
    let ne : past ≢ root = λ e. let yes = c.is_same.ensures.1 e in let no = c.loop-root-test.true in absurd (cc) in
    let up : parent graph past ≡ Some k = sym c.get_parent.ensures.parent ∙ c.in-Some.is in
    let w = holder_inside graph root past k c.loop-root.invariant.within ne up in
    let found = sym c.is_some.ensures ∙ c.if-is_some.true in
    found_next graph c.keeps_nesting.ensures.forest root past k next.result ne up next.ensures.next c.args.at c.loop-root.invariant.rest w found

pub returns-then-is_some-clause-there : goal.returns-then-is_some-clause-there
returns-then-is_some-clause-there g c =
    let graph = c.args.graph.now in
    let root = c.args.root in
    let past = c.loop-root.past in
    let k = c.in-Some.holder in
    let next = c.child_after-next in
    let ne : past ≢ root = λ e. let yes = c.is_same.ensures.1 e in let no = c.loop-root-test.true in absurd (cc) in
    let up : parent graph past ≡ Some k = sym c.get_parent.ensures.parent ∙ c.in-Some.is in
    let w = holder_inside graph root past k c.loop-root.invariant.within ne up in
    let found = sym c.is_some.ensures ∙ c.if-is_some.true in
    found_there graph c.keeps_nesting.ensures.forest root past k next.result ne up next.ensures.next w found

pub loop-root-smaller : goal.loop-root-smaller
loop-root-smaller g c =
    let up : parent c.args.graph.now c.loop-root.past ≡ Some c.in-Some.holder = sym c.get_parent.ensures.parent ∙ c.in-Some.is in
    let less = one_deeper c.args.graph.now c.keeps_nesting.ensures.forest c.loop-root.past c.in-Some.holder up in
    omega (arith, less)

pub loop-root-preserved : goal.loop-root-preserved
loop-root-preserved g c =
    let graph = c.args.graph.now in
    let root = c.args.root in
    let past = c.loop-root.past in
    let k = c.in-Some.holder in
    let next = c.child_after-next in
    let ne : past ≢ root = λ e. let yes = c.is_same.ensures.1 e in let no = c.loop-root-test.true in absurd (cc) in
    let up : parent graph past ≡ Some k = sym c.get_parent.ensures.parent ∙ c.in-Some.is in
    let none = sym c.is_some.ensures ∙ c.if-is_some.false in
    record {
      alive = c.keeps_nesting.ensures.holders past k up;
      within = holder_inside graph root past k c.loop-root.invariant.within ne up;
      rest = found_none graph c.keeps_nesting.ensures.forest root past k next.result ne up next.ensures.next c.args.at c.loop-root.invariant.rest none;
    }

pub returns-clause-next : goal.returns-clause-next
returns-clause-next g c = found_end c.args.graph.now c.keeps_nesting.ensures.forest c.args.root c.args.at c.loop-root.past c.loop-root.invariant.rest
    (c.is_same.ensures.0 c.loop-root-test.false)
