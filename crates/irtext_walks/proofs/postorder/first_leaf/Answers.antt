use Rattle.std.proofs.Common.{◌∙◌, sym, arith}
use Rattle.irtext_graph.specs.Graph.{parent, children}
use Rattle.irtext_graph.proofs.Afters.{empty_list}
use Rattle.irtext_graph.proofs.Inside.{within_on, within_up}
use Rattle.irtext_walks.proofs.Afters.{post_first, post_leaf}
use Rattle.irtext_walks.proofs.Forests.{child_lives, one_deeper, few_levels}
use Rattle.irtext_walks.proofs.postorder.first_leaf.Goals as goal

pub loop-at-preserved : goal.loop-at-preserved
loop-at-preserved g c =
    let graph = c.args.graph.now in
    let forest = c.keeps_nesting.ensures.forest in
    let at = c.loop-at.at in
    let child = c.get_child-at.result in
    let up = forest.down at 0 child c.get_child-at.ensures.child in
    let inside = c.loop-at.invariant.within in
    record {
      alive = child_lives graph child at up;
      within = within_up (parent graph) c.args.from child at up inside;
      first = λ o w. sym (post_first graph forest o at child (within_on (parent graph) o c.args.from at w inside) c.get_child-at.ensures.child)
          ∙ c.loop-at.invariant.first o w;
    }

pub loop-at-smaller : goal.loop-at-smaller
loop-at-smaller g c =
    let graph = c.args.graph.now in
    let forest = c.keeps_nesting.ensures.forest in
    let at = c.loop-at.at in
    let child = c.get_child-at.result in
    let deeper = one_deeper graph forest child at (forest.down at 0 child c.get_child-at.ensures.child) in
    let few = few_levels graph forest child in
    omega (arith, deeper, few)

pub returns-clause-first : goal.returns-clause-first
returns-clause-first g c = λ o w.
    let graph = c.args.graph.now in
    let n = c.num_children.ensures in
    let none = c.loop-at-test.false in
    sym (post_leaf graph c.keeps_nesting.ensures.forest o c.loop-at.at (empty_list (children graph c.loop-at.at) (omega (arith, n, none))))
    ∙ c.loop-at.invariant.first o w
