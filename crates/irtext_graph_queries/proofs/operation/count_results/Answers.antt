use Rattle.irtext_graph.specs.declared.object.Defined.TheVariants.{OfValue}
use Rattle.irtext_graph.specs.declared.object.Value.TheVariants.{Result}
use Rattle.irtext_graph_queries.proofs.FirstResults.{result_within}
use Rattle.irtext_graph_queries.proofs.operation.count_results.Goals as goal

pub returns-clause-used : goal.returns-clause-used
returns-clause-used g c = rw (← c.graph-graph.ensures) (λ k u m. result_within c.graph-graph.result.now c.args.op k c.num_results.result c.num_results.ensures (c.keeps_nesting.ensures.uses u (OfValue (Result c.args.op k)) m))
