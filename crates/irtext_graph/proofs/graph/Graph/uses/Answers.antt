use Rattle.std.proofs.lemmas.Result.{IfOk-weaker}
use Rattle.irtext_graph.proofs.UsesSeen.{head_there, lists_seen}
use Rattle.irtext_graph.proofs.graph.Graph.uses.Goals as goal

pub list_uses-requires-clause-alive : goal.list_uses-requires-clause-alive
list_uses-requires-clause-alive g c = head_there c.self.inside.made c.self.inside.counters c.self.inside.objects c.args.d (rw (← c.self.view_is) at c.requires)

pub returns : goal.returns
returns g c = rw (← c.self.view_is) (IfOk-weaker c.list_uses.result _ _ (λ us. lists_seen c.self.inside.made c.self.inside.counters c.self.inside.objects c.self.invariant.sound.all_used c.args.d us.items) c.list_uses.ensures)
