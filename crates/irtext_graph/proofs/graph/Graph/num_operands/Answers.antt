use Rattle.std.proofs.Common.{◌∙◌, sym}
use Rattle.irtext_graph.proofs.PartsSeen.{operation_there, operand_count}
use Rattle.irtext_graph.proofs.graph.Graph.num_operands.Goals as goal

pub content-requires : goal.content-requires
content-requires g c = operation_there c.self.inside.made c.self.inside.counters c.self.inside.objects c.args.op (rw (← c.self.view_is) at c.requires)

pub returns : goal.returns
returns g c = rw (← c.self.view_is) (c.len.ensures ∙ sym (operand_count c.self.inside.made c.self.inside.counters c.self.inside.objects c.args.op c.content.result.now c.content.ensures))
