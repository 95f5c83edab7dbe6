use Rattle.irtext_names.proofs.Linked.Regions.{takes_enter, fails_enter}
use Rattle.irtext_names.proofs.Nested.{entered_ties, entered_waits}
use Rattle.irtext_names.proofs.regions.enter_region.Goals as goal

pub returns-clause-tied : goal.returns-clause-tied
returns-clause-tied g c =
    let e = c.enter_region.ensures.region in
    entered_ties c.args.graph.now c.args.names.now.values c.enter_region.new.self.values c.args.names.now.labels c.enter_region.new.self.labels c.enter_region.result c.args.isolated e.values e.labels e.err_values e.err_labels c.requires

pub returns-clause-waiting : goal.returns-clause-waiting
returns-clause-waiting g c =
    let e = c.enter_region.ensures.region in
    entered_waits c.args.graph.now c.args.names.now.values c.enter_region.new.self.values c.args.names.now.labels c.enter_region.new.self.labels c.enter_region.result c.args.isolated e.values e.labels e.err_values e.err_labels

pub returns-clause-enters : goal.returns-clause-enters
returns-clause-enters g c =
    let e = c.enter_region.ensures.region in
    takes_enter c.args.graph.now c.args.names.now c.enter_region.new.self c.enter_region.result c.args.isolated e.values e.labels e.shared c.enter_region.ensures.names (returns-clause-tied g c)

pub returns-clause-shut : goal.returns-clause-shut
returns-clause-shut g c = fails_enter c.args.graph.now c.args.names.now c.enter_region.new.self c.enter_region.result c.args.isolated c.enter_region.ensures.region.shared
