use Rattle.std.proofs.Common.{arith}
use Rattle.irtext_graph_queries.proofs.Siblings.{count_away, count_there}
use Rattle.irtext_graph_queries.proofs.beside.count_without.Goals as goal

pub returns-then-not-is_child : goal.returns-then-not-is_child
returns-then-not-is_child g c =
    count_away c.args.graph.now c.keeps_nesting.ensures.forest c.args.k c.args.c
    (λ e. let is = c.is_child.ensures.1 e in let not = c.if-not-is_child.true in cc) c.num_children-count.result c.num_children-count.ensures

pub overflow_sub-result : goal.overflow_sub-result
overflow_sub-result g c =
    let some = count_there c.args.graph.now c.keeps_nesting.ensures.forest c.args.k c.args.c c.find_index_in_parent-index.result
    c.find_index_in_parent-index.ensures c.num_children-count.result c.num_children-count.ensures in
    let low = some.1 in
    omega (arith, low)

pub returns : goal.returns
returns g c =
    (count_there c.args.graph.now c.keeps_nesting.ensures.forest c.args.k c.args.c c.find_index_in_parent-index.result
    c.find_index_in_parent-index.ensures c.num_children-count.result c.num_children-count.ensures).0
