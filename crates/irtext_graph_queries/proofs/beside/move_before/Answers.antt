use Rattle.std.proofs.Common.{◌∙◌, sym, arith}
use Rattle.std.proofs.lemmas.Option.{slice_get_within}
use Rattle.irtext_graph.specs.Edits.{without}
use Rattle.irtext_graph.specs.Graph.{children}
use Rattle.irtext_graph_queries.proofs.Siblings.{moves_beside, apart_around, fits_around, not_itself}
use Rattle.irtext_graph_queries.proofs.beside.move_before.Goals as goal

pub index_without-i-requires-clause-apart : goal.index_without-i-requires-clause-apart
index_without-i-requires-clause-apart g c = not_itself c.args.graph.now c.args.mark c.args.c c.requires.apart

pub returns-clause-ok : goal.returns-clause-ok
returns-clause-ok g c = moves_beside (λ i. i) c.args.graph.now c.move_to.new.self c.args.mark c.args.c c.in-Some.k c.index_without-i.result c.move_to.result
    c.keeps_nesting.ensures.forest (sym c.get_parent.ensures.parent ∙ c.in-Some.is) c.index_without-i.ensures c.move_to.ensures.ok

pub move_to-requires-clause-fits : goal.move_to-requires-clause-fits
move_to-requires-clause-fits g c = fits_around c.args.graph.now c.args.mark c.args.c c.in-Some.k c.keeps_nesting.ensures.forest c.keeps_nesting.ensures.kinds
    (sym c.get_parent.ensures.parent ∙ c.in-Some.is) c.requires.alike

pub move_to-requires-clause-apart : goal.move_to-requires-clause-apart
move_to-requires-clause-apart g c = apart_around c.args.graph.now c.args.mark c.args.c c.in-Some.k (sym c.get_parent.ensures.parent ∙ c.in-Some.is)
    c.requires.apart

pub move_to-requires-clause-within : goal.move_to-requires-clause-within
move_to-requires-clause-within g c =
    let low = slice_get_within (without c.args.c (children c.args.graph.now c.in-Some.k)) c.index_without-i.result c.args.mark c.index_without-i.ensures in
    omega (arith, low)
