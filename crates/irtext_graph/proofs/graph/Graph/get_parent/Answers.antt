use Rattle.std.proofs.Common.{◌∙◌, sym}
use Rattle.irtext_graph.proofs.Views.{lives_at, up_seen}
use Rattle.irtext_graph.proofs.Nesting.{holder_is_live}
use Rattle.irtext_graph.proofs.graph.Graph.get_parent.Goals as goal

pub parent_of-requires : goal.parent_of-requires
parent_of-requires g c = lives_at c.self.inside.made c.self.inside.counters c.self.inside.objects c.args.o (rw (← c.self.view_is) at c.requires)

pub returns-clause-parent : goal.returns-clause-parent
returns-clause-parent g c = rw (← c.self.view_is) (c.parent_of.ensures ∙ sym (up_seen c.self.inside.made c.self.inside.counters c.self.inside.objects c.args.o))

pub returns-clause-alive : goal.returns-clause-alive
returns-clause-alive g c = rw (← c.self.view_is) (holder_is_live c.self.inside.made c.self.inside.counters c.self.inside.objects c.args.o c.self.invariant.sound.forest c.parent_of.result c.parent_of.ensures)
