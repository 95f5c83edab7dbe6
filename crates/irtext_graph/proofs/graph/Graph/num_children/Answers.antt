use Rattle.std.proofs.Common.{◌∙◌, sym, ap, length}
use Rattle.irtext_graph.proofs.Views.{lives_at, kids_seen}
use Rattle.irtext_graph.proofs.graph.Graph.num_children.Goals as goal

pub child_count-requires : goal.child_count-requires
child_count-requires g c = lives_at c.self.inside.made c.self.inside.counters c.self.inside.objects c.args.o (rw (← c.self.view_is) at c.requires)

pub returns : goal.returns
returns g c = rw (← c.self.view_is) (c.child_count.ensures ∙ ap length (sym (kids_seen c.self.inside.made c.self.inside.counters c.self.inside.objects c.args.o)))
