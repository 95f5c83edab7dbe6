use Rattle.irtext_graph.proofs.Views.{lives_at, can_at, can_seen}
use Rattle.irtext_graph.proofs.graph.Graph.can_insert_at_back.Goals as goal

pub can_insert-requires-clause-holder : goal.can_insert-requires-clause-holder
can_insert-requires-clause-holder g c = lives_at c.self.inside.made c.self.inside.counters c.self.inside.objects c.args.k (rw (← c.self.view_is) at c.requires.holder)

pub can_insert-requires-clause-lives : goal.can_insert-requires-clause-lives
can_insert-requires-clause-lives g c = lives_at c.self.inside.made c.self.inside.counters c.self.inside.objects c.args.c (rw (← c.self.view_is) at c.requires.alive)

pub returns : goal.returns
returns g c = rw (← c.self.view_is) (λ t. can_seen c.self.inside.made c.self.inside.counters c.self.inside.objects c.args.k c.args.c (c.can_insert.ensures.0 t), λ k. c.can_insert.ensures.1 (can_at c.self.inside.made c.self.inside.counters c.self.inside.objects c.args.k c.args.c k))
