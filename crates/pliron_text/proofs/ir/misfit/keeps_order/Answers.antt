use Rattle.std.proofs.Common.{Some, subst}
use Rattle.irtext_graph.specs.Chained.{Among}
use Rattle.irtext_graph.specs.Graph.{children, parent, IsInside}
use Rattle.irtext_graph.specs.Nested.{Nested}
use Rattle.irtext_graph.specs.Throughout.{all_from}
use Rattle.irtext_graph.specs.declared.object.Object.{Object}
use Rattle.pliron_text.proofs.ir.misfit.keeps_order.Goals as goal

pub returns-clause-forest : goal.returns-clause-forest
returns-clause-forest g c = subst (λ v. Nested (children v) (parent v)) c.graph.ensures c.keeps_nesting.ensures.forest

pub returns-clause-all : goal.returns-clause-all
returns-clause-all g c = subst (λ v. (o q : Object) → IsInside v o q → Among q (all_from v o (Some o))) c.graph.ensures c.keeps_nesting.ensures.all
