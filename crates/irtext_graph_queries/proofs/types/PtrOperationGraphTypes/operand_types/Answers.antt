use Rattle.std.proofs.Common.{◌∙◌, sym, rules, map, Some}
use Rattle.std.specs.Option.{option_map}
use Rattle.std.proofs.lemmas.List.{length-map}
use Rattle.irtext_graph.specs.Parts.{operands, value_at}
use Rattle.irtext_graph_queries.proofs.Gathered.{same_seen}
use Rattle.irtext_graph_queries.proofs.types.PtrOperationGraphTypes.operand_types.Goals as goal

pub returns : goal.returns
returns g c =
    let v = g.C.HasGraph.graph c.args.ctx.now in
    let counted = rw (← c.graph-graph.ensures) c.num_operands-count.ensures ∙ sym (length-map (operands v c.args.self) (λ x. option_map (λ t. t.of_type) (value_at v x))) in
    same_seen (λ t. Some t.now) (λ r. r.items) c.listed.result (map (λ x. option_map (λ t. t.of_type) (value_at v x)) (operands v c.args.self)) counted (λ i x less at. search rules) c.listed.ensures
