use Rattle.std.proofs.Common.{arith}
use Rattle.irtext_graph_queries.proofs.Siblings.{index_away, index_after, index_before}
use Rattle.irtext_graph_queries.proofs.beside.index_without.Goals as goal

pub returns-then-not-is_child : goal.returns-then-not-is_child
returns-then-not-is_child g c =
    index_away c.args.graph.now c.keeps_nesting.ensures.forest c.args.k c.args.c
    (λ e. let is = c.is_child.ensures.1 e in let not = c.if-not-is_child.true in cc) c.args.mark c.find_index_in_parent-i.result c.find_index_in_parent-i.ensures

pub returns-then-j-i : goal.returns-then-j-i
returns-then-j-i g c =
    index_after c.args.graph.now c.keeps_nesting.ensures.forest c.args.k c.args.c c.find_index_in_parent-j.result c.find_index_in_parent-j.ensures
    c.args.mark c.find_index_in_parent-i.result c.find_index_in_parent-i.ensures c.if-j-i.true

pub returns : goal.returns
returns g c =
    index_before c.args.graph.now c.keeps_nesting.ensures.forest c.args.k c.args.c c.find_index_in_parent-j.result c.find_index_in_parent-j.ensures
    c.args.mark c.find_index_in_parent-i.result c.find_index_in_parent-i.ensures c.requires.apart (λ low. let high = c.if-j-i.false in omega (arith, low, high))
