use Rattle.std.proofs.Common.{subst}
use Rattle.irtext_graph.specs.Graph.{children, parent}
use Rattle.irtext_graph.specs.Nested.{Nested}
use Rattle.irtext_graph.specs.Used.{IsUse, IsDefined}
use Rattle.irtext_graph.specs.declared.object.Defined.{Defined}
use Rattle.irtext_graph.specs.declared.object.Site.{Site}
use Rattle.irtext_formatter.proofs.roots.keeps_sound.Goals as goal

pub returns-clause-nested : goal.returns-clause-nested
returns-clause-nested g c = subst (λ v. Nested (children v) (parent v)) c.graph.ensures c.keeps_nesting.ensures.forest

pub returns-clause-used : goal.returns-clause-used
returns-clause-used g c = subst (λ v. (u : Site) (d : Defined) → IsUse v d u → IsDefined v d) c.graph.ensures c.keeps_nesting.ensures.uses
