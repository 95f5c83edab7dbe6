use Rattle.std.proofs.Common.{◌∙◌, sym, rules, map}
use Rattle.std.proofs.lemmas.List.{length-map}
use Rattle.std.proofs.lemmas.Option.{slice_get-map}
use Rattle.irtext_graph.specs.Parts.{results}
use Rattle.irtext_graph_queries.proofs.Gathered.{same_seen}
use Rattle.irtext_graph_queries.proofs.types.PtrOperationGraphTypes.result_types.Goals as goal

pub returns : goal.returns
returns g c =
    let all = results (g.C.HasGraph.graph c.args.ctx.now) c.args.self in
    same_seen (λ t. t.now) (λ r. r.items) c.listed.result (map (λ v. v.of_type) all) ((rw (← c.graph-graph.ensures) c.num_results-count.ensures) ∙ sym (length-map all (λ v. v.of_type)))
    (λ i x less at. slice_get-map (λ v. v.of_type) all i ∙ search rules) c.listed.ensures
