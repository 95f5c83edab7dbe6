use Rattle.std.proofs.Common.{◌≡◌, ◌∷◌, ◌∙◌, ap, sym, subst, Some}
use Rattle.std.specs.Option.{option_map}
use Rattle.irtext_graph.specs.declared.object.Object.TheVariants.{TheOperation}
use Rattle.irtext_graph_queries.specs.Nested.{operations_among}
use Rattle.irtext_walks.specs.Walks.{IsAtLive, operations_from}
use Rattle.irtext_walks.proofs.Picked.{one_longer}
use Rattle.irtext_tests_walks.proofs.tests.written.number_all.Goals as goal

pub next_operation-at-requires : goal.next_operation-at-requires
next_operation-at-requires c =
    let root = TheOperation c.args.root in
    let here = subst (λ at. IsAtLive c.loop-at.holder.graph root (option_map TheOperation at)) c.in-Some.is c.loop-at.invariant.there in
    c.write_one.ensures.inside root (TheOperation c.in-Some.op) here

pub loop-at-smaller : goal.loop-at-smaller
loop-at-smaller c =
    let root = TheOperation c.args.root in
    let old = c.loop-at.holder.graph in
    let new = c.write_one.new.holder.graph in
    let op = c.in-Some.op in
    let next = c.next_operation-at in
    let same : operations_from old root c.loop-at.at ≡ op ∷ operations_from new root next.result =
    ap (operations_from old root) c.in-Some.is ∙ ap operations_among (sym (c.write_one.ensures.preorder root (Some (TheOperation op)))) ∙ next.ensures.next in
    one_longer (operations_from old root c.loop-at.at) (operations_from new root next.result) op same
