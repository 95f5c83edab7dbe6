use Rattle.std.proofs.Common.{◌≡◌, ◌++◌, ◌∙◌, Some, None, IfSome, ap, sym, subst, rules}
use Rattle.irtext_graph.specs.Chained.{Among}
use Rattle.irtext_graph.specs.Graph.{IsInside}
use Rattle.irtext_graph.specs.Throughout.{all_from}
use Rattle.irtext_graph.specs.declared.object.Object.TheVariants.{TheOperation}
use Rattle.irtext_graph_queries.specs.Nested.{operations_among}
use Rattle.irtext_graph_queries.proofs.NestedOperations.{gathered_more, gathered_all, held_more, among_operations}
use Rattle.irtext_graph_queries.proofs.nested.list_operations.Goals as goal

pub loop-at-preserved : goal.loop-at-preserved
loop-at-preserved g c =
    let now = c.args.graph.now in
    let o = c.args.o in
    let before = c.loop-at.invariant in
    let next = c.next_inside-at.ensures in
    record {
      gathered = gathered_more c.loop-at.all.items c.keep_operation.new.all.items c.in-Some.q (all_from now o c.next_inside-at.result) (all_from now o (Some c.in-Some.q)) c.in_ok-keep_operation.ensures next.next
          ∙ ap (λ at. c.loop-at.all.items ++ operations_among (all_from now o at)) (sym c.in-Some.is) ∙ before.gathered;
      held = held_more (λ q. IsInside now o q) c.loop-at.all.items c.keep_operation.new.all.items c.in-Some.q c.in_ok-keep_operation.ensures before.held
          (subst (λ at. IfSome at (λ q. IsInside now o q)) c.in-Some.is before.inside);
      inside = next.inside;
      there = next.there;
    }

pub returns-clause-inside : goal.returns-clause-inside
returns-clause-inside g c =
    let now = c.args.graph.now in
    let o = c.args.o in
    let end : c.loop-at.at ≡ None = search rules in
    let all = gathered_all c.loop-at.all.items (all_from now o c.loop-at.at) (all_from now o (Some o)) c.loop-at.invariant.gathered (ap (all_from now o) end) in
    λ p. (c.loop-at.invariant.held p, λ h. subst (Among p) (sym all) (among_operations p (all_from now o (Some o)) (c.keeps_nesting.ensures.all o (TheOperation p) h)))
