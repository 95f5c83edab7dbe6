use Rattle.irtext_graph.proofs.Closed.{all_older, closed_all}
use Rattle.irtext_graph.proofs.graph.Graph.made.Goals as goal

pub returns-clause-older : goal.returns-clause-older
returns-clause-older g c = rw (← c.self.view_is) (all_older c.self.inside.made c.self.inside.counters c.self.inside.objects c.self.invariant.sound)

pub returns-clause-closed : goal.returns-clause-closed
returns-clause-closed g c = rw (← c.self.view_is) (closed_all c.self.inside.made c.self.inside.counters c.self.inside.objects c.self.invariant.sound)
