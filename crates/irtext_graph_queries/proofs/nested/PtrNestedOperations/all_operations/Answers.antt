use Rattle.std.proofs.Common.{◌≡◌, IfOk, Some, subst}
use Rattle.irtext_graph.specs.Throughout.{all_from}
use Rattle.irtext_graph_queries.specs.Nested.{operations_among}
use Rattle.irtext_graph_queries.proofs.nested.PtrNestedOperations.all_operations.Goals as goal

pub returns-clause-inside : goal.returns-clause-inside
returns-clause-inside g c = rw (← c.graph.ensures, ← c.object.ensures) c.list_operations.ensures.inside

pub returns-clause-order : goal.returns-clause-order
returns-clause-order g c =
    subst (λ v. IfOk c.list_operations.result (λ all. all.items ≡ operations_among (all_from v (g.K.Kind.object c.args.self) (Some (g.K.Kind.object c.args.self))))) c.graph.ensures
    (subst (λ o. IfOk c.list_operations.result (λ all. all.items ≡ operations_among (all_from c.graph.result.now o (Some o)))) c.object.ensures c.list_operations.ensures.order)
