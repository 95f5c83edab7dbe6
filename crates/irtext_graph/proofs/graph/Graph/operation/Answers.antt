use Rattle.std.proofs.Common.{ap, option_map}
use Rattle.irtext_graph.proofs.PartsSeen.{operation_there, operation_seen}
use Rattle.irtext_graph.proofs.graph.Graph.operation.Goals as goal

pub content-requires : goal.content-requires
content-requires g c = operation_there c.self.inside.made c.self.inside.counters c.self.inside.objects c.args.op (rw (← c.self.view_is) at c.requires)

pub returns : goal.returns
returns g c = rw (← c.self.view_is) (ap (option_map (λ c. c.data_of)) (operation_seen c.self.inside.made c.self.inside.counters c.self.inside.objects c.args.op c.content.result.now c.content.ensures))
