use Rattle.std.proofs.Common.{ap}
use Rattle.irtext_graph.specs.Nest.{children_in}
use Rattle.irtext_graph.specs.Content.{operation_content, node_of}
use Rattle.irtext_graph.proofs.Arenas.{replaced, same_view}
use Rattle.irtext_graph.proofs.Relisted.{relisted}
use Rattle.irtext_graph.proofs.Stores.{content_same}
use Rattle.irtext_graph.proofs.making.Arena+Nest+BasicBlock+Region+OperationData+O+T.make_region_room.Goals as goal

pub returns-clause-seen : goal.returns-clause-seen
returns-clause-seen g c =
    let x = c.content_mut.result.now in
    content_same (node_of operation_content) c.args.self.now c.args.p x _ c.content_mut.ensures.value
    (ap (λ cs. record { parent = x.parent; children = cs; content = operation_content x.data }) c.make_room.ensures.same)

pub returns-clause-only : goal.returns-clause-only
returns-clause-only g c = relisted c.args.self.now c.args.p c.content_mut.result.now _ c.content_mut.ensures.value

pub returns-clause-kids : goal.returns-clause-kids
returns-clause-kids g c = same_view children_in (replaced c.args.self.now c.args.p c.content_mut.result.now _ c.content_mut.ensures.value) (λ b. c.make_room.ensures.same)
