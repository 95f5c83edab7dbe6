use Rattle.irtext_graph.proofs.Views.{lives_at, lives_seen}
use Rattle.irtext_graph.proofs.graph.Graph.contains.Goals as goal

pub returns : goal.returns
returns g c = rw (← c.self.view_is) (λ t. lives_seen c.self.inside.made c.self.inside.counters c.self.inside.objects c.args.o (c.contains.ensures.0 t), λ l. c.contains.ensures.1 (lives_at c.self.inside.made c.self.inside.counters c.self.inside.objects c.args.o l))
