use Rattle.irtext_graph.proofs.Inserting.{region_inserted, block_inserted, operation_inserted}
use Rattle.irtext_graph.proofs.objects.Objects.insert_child.Goals as goal

pub returns-in-TheOperation-TheRegion-clause-inserts : goal.returns-in-TheOperation-TheRegion-clause-inserts
returns-in-TheOperation-TheRegion-clause-inserts g c =
    let k = c.in-TheOperation-TheRegion in
    let a = c.insert_child.ensures in
    let s = c.set_parent.ensures in
    region_inserted c.args.self.now _ _ k.p c.args.i k.r (record { here = a.here; only = a.only }) (record { here = s.here; others = s.others; lists = s.kids; all_data = s.«data» }) c.args.k c.args.c k.is-0 k.is-1

pub returns-in-TheRegion-TheBlock-clause-inserts : goal.returns-in-TheRegion-TheBlock-clause-inserts
returns-in-TheRegion-TheBlock-clause-inserts g c =
    let k = c.in-TheRegion-TheBlock in
    let a = c.insert_child-in-TheRegion-TheBlock.ensures in
    let s = c.set_parent-in-TheRegion-TheBlock.ensures in
    block_inserted c.args.self.now _ _ k.p c.args.i k.r (record { here = a.here; only = a.only }) (record { here = s.here; others = s.others; lists = s.kids; all_data = s.«data» }) c.args.k c.args.c k.is-0 k.is-1

pub returns-in-TheBlock-TheOperation-clause-inserts : goal.returns-in-TheBlock-TheOperation-clause-inserts
returns-in-TheBlock-TheOperation-clause-inserts g c =
    let k = c.in-TheBlock-TheOperation in
    let a = c.insert_child-in-TheBlock-TheOperation.ensures in
    let s = c.set_parent-in-TheBlock-TheOperation.ensures in
    operation_inserted c.args.self.now _ _ k.p c.args.i k.r (record { here = a.here; only = a.only }) (record { here = s.here; others = s.others; lists = s.kids; all_data = s.«data» }) c.args.k c.args.c k.is-0 k.is-1
