use Rattle.std.proofs.Common.{◌∙◌, ◌+◌, sym, arith}
use Rattle.std.proofs.lemmas.Option.{slice_get_within}
use Rattle.irtext_graph.specs.Graph.{children}
use Rattle.irtext_graph_queries.proofs.Siblings.{inserts_beside, can_around, fits_around}
use Rattle.irtext_graph_queries.proofs.beside.insert_after.Goals as goal

pub returns-clause-ok : goal.returns-clause-ok
returns-clause-ok g c = inserts_beside (λ i. i + 1) c.args.graph.now c.insert_at.new.self c.args.mark c.args.c c.in-Some.k c.find_index_in_parent-i.result
    c.insert_at.result c.keeps_nesting.ensures.forest (sym c.get_parent.ensures.parent ∙ c.in-Some.is) c.find_index_in_parent-i.ensures c.insert_at.ensures.ok

pub insert_at-requires-clause-fits : goal.insert_at-requires-clause-fits
insert_at-requires-clause-fits g c = fits_around c.args.graph.now c.args.mark c.args.c c.in-Some.k c.keeps_nesting.ensures.forest
    c.keeps_nesting.ensures.kinds (sym c.get_parent.ensures.parent ∙ c.in-Some.is) c.requires.alike

pub insert_at-requires-clause-can : goal.insert_at-requires-clause-can
insert_at-requires-clause-can g c = can_around c.args.graph.now c.args.mark c.args.c c.in-Some.k (sym c.get_parent.ensures.parent ∙ c.in-Some.is) c.requires.can

pub insert_at-requires-clause-within : goal.insert_at-requires-clause-within
insert_at-requires-clause-within g c =
    let low = slice_get_within (children c.args.graph.now c.in-Some.k) c.find_index_in_parent-i.result c.args.mark c.find_index_in_parent-i.ensures in
    omega (arith, low)

pub overflow_add-i : goal.overflow_add-i
overflow_add-i g c =
    let low = slice_get_within (children c.args.graph.now c.in-Some.k) c.find_index_in_parent-i.result c.args.mark c.find_index_in_parent-i.ensures in
    let n = c.num_children-count.ensures in
    let m = c.num_children-count.type_inv in
    omega (arith, low, n, m)
