use Rattle.irtext_names.proofs.Linked.Regions.{takes_leave, fails_leave}
use Rattle.irtext_names.proofs.Nested.{left_ties, if_left_waits, if_none_left}
use Rattle.irtext_names.proofs.regions.exit_region.Goals as goal

pub returns-clause-tied : goal.returns-clause-tied
returns-clause-tied g c =
    let e = c.exit_region.ensures in
    left_ties c.args.graph.now c.args.names.now.values c.exit_region.new.self.values c.args.names.now.labels c.exit_region.new.self.labels c.args.isolated e.values e.labels c.requires

pub returns-clause-waiting : goal.returns-clause-waiting
returns-clause-waiting g c =
    let e = c.exit_region.ensures in
    if_left_waits c.args.graph.now c.args.names.now.values c.exit_region.new.self.values c.args.names.now.labels c.exit_region.new.self.labels c.exit_region.result c.args.isolated e.first e.values e.labels

pub returns-clause-none_left : goal.returns-clause-none_left
returns-clause-none_left g c =
    let e = c.exit_region.ensures in
    if_none_left c.args.graph.now c.args.names.now.values c.exit_region.new.self.values c.args.names.now.labels c.exit_region.new.self.labels c.exit_region.result c.args.isolated e.first e.values e.labels

pub returns-clause-leaves : goal.returns-clause-leaves
returns-clause-leaves g c =
    let e = c.exit_region.ensures in
    takes_leave c.args.graph.now c.args.names.now c.exit_region.new.self c.exit_region.result c.args.isolated e.first e.values e.labels e.names (returns-clause-tied g c)

pub returns-clause-unresolved : goal.returns-clause-unresolved
returns-clause-unresolved g c =
    let e = c.exit_region.ensures in
    fails_leave c.args.graph.now c.args.names.now c.exit_region.new.self c.exit_region.result c.args.isolated e.first e.known
