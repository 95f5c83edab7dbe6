use Rattle.std.proofs.Common.{ap, option_map}
use Rattle.irtext_graph.proofs.PartsSeen.{block_there, block_seen}
use Rattle.irtext_graph.proofs.graph.Graph.block.Goals as goal

pub content-requires : goal.content-requires
content-requires g c = block_there c.self.inside.made c.self.inside.counters c.self.inside.objects c.args.block (rw (← c.self.view_is) at c.requires)

pub returns : goal.returns
returns g c = rw (← c.self.view_is) (ap (option_map (λ c. c.data_of)) (block_seen c.self.inside.made c.self.inside.counters c.self.inside.objects c.args.block c.content.result.now c.content.ensures))
