use Rattle.std.proofs.Common.{◌∙◌, ap, Some}
use Rattle.std.specs.Option.{option_map}
use Rattle.std.proofs.lemmas.Option.{slice_get-map}
use Rattle.irtext_graph.specs.declared.object.Defined.TheVariants.{OfValue}
use Rattle.irtext_graph.specs.declared.object.Site.TheVariants.{AtOperand}
use Rattle.irtext_graph.specs.Parts.{operands, value_at}
use Rattle.irtext_graph_queries.proofs.types.type_of_operand.Goals as goal

pub type_of-requires : goal.type_of-requires
type_of-requires g c = c.keeps_nesting.ensures.uses (AtOperand c.args.op c.args.index) (OfValue c.get_operand.result) (ap (option_map OfValue) c.get_operand.ensures)

pub returns : goal.returns
returns g c =
    let v = c.args.graph.now in
    slice_get-map (λ x. option_map (λ t. t.of_type) (value_at v x)) (operands v c.args.op) c.args.index
    ∙ ap (option_map (λ x. option_map (λ t. t.of_type) (value_at v x))) c.get_operand.ensures
    ∙ ap Some c.type_of.ensures
