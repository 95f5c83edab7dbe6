use Rattle.irtext_graph.proofs.UsesSeen.{head_there, lists_seen}
use Rattle.irtext_graph.proofs.graph.Graph.num_uses.Goals as goal

pub count_uses-requires-clause-alive : goal.count_uses-requires-clause-alive
count_uses-requires-clause-alive g c = head_there c.self.inside.made c.self.inside.counters c.self.inside.objects c.args.d (rw (← c.self.view_is) at c.requires)

pub returns : goal.returns
returns g c =
    let k = c.count_uses.ensures in
    rw (← c.self.view_is) (record { list = k.list; lists = lists_seen c.self.inside.made c.self.inside.counters c.self.inside.objects c.self.invariant.sound.all_used c.args.d k.list k.lists; within = k.within; exact = k.exact })
