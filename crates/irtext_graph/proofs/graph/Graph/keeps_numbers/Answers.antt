use Rattle.std.proofs.Common.{subst}
use Rattle.irtext_graph.specs.Numbers.{NumbersDiffer}
use Rattle.irtext_graph.proofs.graph.Graph.keeps_numbers.Goals as goal

pub returns-clause-below : goal.returns-clause-below
returns-clause-below g c = rw (← c.self.view_is) c.self.invariant.numbered.below

pub returns-clause-differ : goal.returns-clause-differ
returns-clause-differ g c = subst (λ v. NumbersDiffer v) c.self.view_is c.self.invariant.numbered.differ
