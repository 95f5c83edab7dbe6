use Rattle.std.proofs.Common.{refl, ap}
use Rattle.std.specs.Option.{option_map}
use Rattle.irtext_graph.proofs.Data.{data_kept, data_lent}
use Rattle.irtext_graph.proofs.PartsSeen.{operation_there, operation_seen}
use Rattle.irtext_graph.proofs.graph.Graph.operation_mut.Goals as goal

pub content_mut-requires : goal.content_mut-requires
content_mut-requires g c = operation_there c.self.inside.made c.self.inside.counters c.self.inside.objects c.args.op (rw (← c.self.view_is) at c.requires)

pub invariant_of-self-lent : goal.invariant_of-self-lent
invariant_of-self-lent g c = λ w.
    data_kept c.self.inside.objects c.args.op c.content_mut.result.now c.content_mut.ensures.value w c.self.inside.made c.self.inside.counters c.self.inside.log.items c.self.invariant

pub returns : goal.returns
returns g c =
    let value = ap (option_map (λ c. c.data_of)) (operation_seen c.self.inside.made c.self.inside.counters c.self.inside.objects c.args.op c.content_mut.result.now c.content_mut.ensures.value) in
    ((refl, λ w. data_lent c.self.inside.objects c.args.op c.content_mut.result.now c.content_mut.ensures.value w c.self.inside.made c.self.inside.counters _ c.self.view_is), record { lends = tt; value = rw (← c.self.view_is) value })
