use Rattle.std.proofs.Common.{subst}
use Rattle.irtext_graph.specs.Back.{AllOlder}
use Rattle.irtext_names.proofs.Added.{no_ties, no_waits}
use Rattle.irtext_names.proofs.Linked.Regions.{none_agrees}
use Rattle.irtext_names.proofs.regions.no_names.Goals as goal

pub returns-clause-tied : goal.returns-clause-tied
returns-clause-tied g c = rw (c.new.ensures.values, c.new.ensures.labels) (no_ties c.args.graph.now)

pub returns-clause-waiting : goal.returns-clause-waiting
returns-clause-waiting g c = rw (c.new.ensures.values, c.new.ensures.labels) (no_waits c.args.graph.now (subst (λ m. AllOlder m c.args.graph.now) c.made-made.ensures.value c.made-made.ensures.older))

pub returns-clause-agreed : goal.returns-clause-agreed
returns-clause-agreed g c =
    let e = c.new.ensures in
    none_agrees c.args.graph.now c.new.result e.names e.values e.labels (returns-clause-tied g c)
