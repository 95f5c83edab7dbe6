use Rattle.irtext_graph.proofs.Inserting.{operation_roomy, block_roomy, region_roomy}
use Rattle.irtext_graph.proofs.objects.Objects.make_room.Goals as goal

pub returns-in-TheOperation-clause-same : goal.returns-in-TheOperation-clause-same
returns-in-TheOperation-clause-same g c =
    let s = c.make_child_room.ensures in
    operation_roomy c.args.self.now _ c.in-TheOperation.p s.here s.only s.links

pub returns-in-TheBlock-clause-same : goal.returns-in-TheBlock-clause-same
returns-in-TheBlock-clause-same g c =
    let s = c.make_child_room-in-TheBlock.ensures in
    block_roomy c.args.self.now _ c.in-TheBlock.p s.here s.only s.links

pub returns-in-TheRegion-clause-same : goal.returns-in-TheRegion-clause-same
returns-in-TheRegion-clause-same g c =
    let s = c.make_child_room-in-TheRegion.ensures in
    region_roomy c.args.self.now _ c.in-TheRegion.p s.here s.only s.links
