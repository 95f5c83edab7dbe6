use Rattle.std.proofs.Common.{◌∙◌, sym, ap, slice_get}
use Rattle.irtext_graph.proofs.Views.{up_seen, kids_seen}
use Rattle.irtext_graph.proofs.graph.Graph.find_index_in_parent.Goals as goal

pub index_in-requires-clause-alive : goal.index_in-requires-clause-alive
index_in-requires-clause-alive g c = sym (up_seen c.self.inside.made c.self.inside.counters c.self.inside.objects c.args.c) ∙ (rw (← c.self.view_is) at c.requires)

pub returns : goal.returns
returns g c = rw (← c.self.view_is) (ap (λ cs. slice_get cs c.index_in.result) (kids_seen c.self.inside.made c.self.inside.counters c.self.inside.objects c.args.k) ∙ c.index_in.ensures)
