use Rattle.std.proofs.Common.{arith}
use Rattle.irtext_graph.proofs.Slots.{not_vacant, full_content}
use Rattle.irtext_graph.proofs.Arenas.{within}
use Rattle.irtext_graph.proofs.arena.Arena.content.Goals as goal

pub index-requires : goal.index-requires
index-requires g c = omega (arith, within c.args.self.now.slots.items c.args.p.index c.args.p.generation c.requires, c.args.self.now.slots.ok.0)

pub unreachable-requires : goal.unreachable-requires
unreachable-requires g c = not_vacant c.args.self.now c.args.p c.index.result.now _ _ c.requires c.index.ensures c.in-Vacant.is

pub returns : goal.returns
returns g c = full_content c.args.self.now c.args.p c.index.result.now _ _ c.requires c.index.ensures c.in-Full.is
