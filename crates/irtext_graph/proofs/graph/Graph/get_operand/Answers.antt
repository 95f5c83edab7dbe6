use Rattle.irtext_graph.proofs.PartsSeen.{operation_there, operand_read}
use Rattle.irtext_graph.proofs.graph.Graph.get_operand.Goals as goal

pub content-requires : goal.content-requires
content-requires g c = operation_there c.self.inside.made c.self.inside.counters c.self.inside.objects c.args.op (rw (← c.self.view_is) at c.requires.alive)

pub returns : goal.returns
returns g c =
    rw (← c.self.view_is) (operand_read c.self.inside.made c.self.inside.counters c.self.inside.objects c.args.op c.content.result.now c.content.ensures c.args.i c.index.result.now (rw (← c.self.view_is) at c.requires.within) c.index.ensures)
