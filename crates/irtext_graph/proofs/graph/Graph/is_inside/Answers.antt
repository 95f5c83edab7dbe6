use Rattle.irtext_graph.proofs.Views.{lives_at, within_seen, within_at}
use Rattle.irtext_graph.proofs.graph.Graph.is_inside.Goals as goal

pub is_inside-requires-clause-lives : goal.is_inside-requires-clause-lives
is_inside-requires-clause-lives g c = lives_at c.self.inside.made c.self.inside.counters c.self.inside.objects c.args.q (rw (← c.self.view_is) at c.requires)

pub returns : goal.returns
returns g c = rw (← c.self.view_is) (λ t. within_seen c.self.inside.made c.self.inside.counters c.self.inside.objects c.args.o c.args.q (c.is_inside.ensures.0 t), λ k. c.is_inside.ensures.1 (within_at c.self.inside.made c.self.inside.counters c.self.inside.objects c.args.o c.args.q k))
