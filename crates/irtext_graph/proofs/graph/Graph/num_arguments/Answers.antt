use Rattle.std.proofs.Common.{◌∙◌, sym}
use Rattle.irtext_graph.proofs.PartsSeen.{block_there, argument_count}
use Rattle.irtext_graph.proofs.graph.Graph.num_arguments.Goals as goal

pub content-requires : goal.content-requires
content-requires g c = block_there c.self.inside.made c.self.inside.counters c.self.inside.objects c.args.block (rw (← c.self.view_is) at c.requires)

pub returns : goal.returns
returns g c = rw (← c.self.view_is) (c.len.ensures ∙ sym (argument_count c.self.inside.made c.self.inside.counters c.self.inside.objects c.args.block c.content.result.now c.content.ensures))
