use Rattle.irtext_graph_queries.proofs.edits.PtrObjectEdits.can_erase.Goals as goal

pub returns : goal.returns
returns g c = rw (← c.graph.ensures) (rw (← c.object.ensures) c.can_erase.ensures)
