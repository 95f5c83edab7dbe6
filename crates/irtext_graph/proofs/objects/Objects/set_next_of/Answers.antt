use Rattle.std.proofs.Common.{refl}
use Rattle.irtext_graph.specs.Uses.{def_of, prev_of}
use Rattle.irtext_graph.proofs.Linked.{relinked_same}
use Rattle.irtext_graph.proofs.objects.Objects.set_next_of.Goals as goal

pub returns-in-Some-clause-prevs : goal.returns-in-Some-clause-prevs
returns-in-Some-clause-prevs g c = relinked_same c.args.self.now c.set_links.new.self c.in-Some.s _ c.use_of-links.result prev_of c.use_of-links.ensures c.set_links.ensures.here c.set_links.ensures.others refl

pub returns-in-Some-clause-values : goal.returns-in-Some-clause-values
returns-in-Some-clause-values g c = relinked_same c.args.self.now c.set_links.new.self c.in-Some.s _ c.use_of-links.result def_of c.use_of-links.ensures c.set_links.ensures.here c.set_links.ensures.others refl
