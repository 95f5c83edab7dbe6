use Rattle.std.proofs.Common.{◌≡◌, ◌∙◌, ℕ, sym, subst, Some, length}
use Rattle.std.proofs.lemmas.List.{length-map}
use Rattle.irtext_context.specs.Context.{operation}
use Rattle.irtext_context.proofs.Parts.{seen_is_live}
use Rattle.irtext_graph.specs.Graph.{IsLive}
use Rattle.irtext_graph.specs.Parts.{operands, successors, results, regions}
use Rattle.irtext_graph.specs.declared.object.Object.TheVariants.{TheOperation}
use Rattle.irtext_grammar.specs.Contexts.Nested.{number_of, place_of, typed_number, seen_operation}
use Rattle.irtext_print_ops.specs.Fits.{counts_of}
use Rattle.irtext_print_ops.specs.Names.{operand_text, label_text}
use Rattle.irtext_print_ops.proofs.FitTexts.{all_counted, known_counted, counts_are}
use Rattle.irtext_print_ops.proofs.PartTexts.{uses_defined}
use Rattle.irtext_print_ops.proofs.LiveViews.{for_seen}
use Rattle.irtext_print_ops.proofs.printer.Printer.count_parts.Goals as goal

pub count-requires : goal.count-requires
count-requires g c = seen_is_live c.args.self.ctx.now c.args.op c.requires

pub count-requires-2 : goal.count-requires-2
count-requires-2 g c = seen_is_live c.args.self.ctx.now c.args.op c.requires

pub count_typed-requires : goal.count_typed-requires
count_typed-requires g c = seen_is_live c.args.self.ctx.now c.args.op c.requires

pub count_regions-requires : goal.count_regions-requires
count_regions-requires g c = subst (λ z. IsLive z (TheOperation c.args.op)) (sym c.graph.ensures) (seen_is_live c.args.self.ctx.now c.args.op c.requires)

pub returns : goal.returns
returns g c =
    let used = operands c.args.self.ctx.now.graph c.args.op in
    let blocks = successors c.args.self.ctx.now.graph c.args.op in
    for_seen (operation c.args.self.ctx.now c.args.op) (seen_operation g.A.IrText.written c.args.self.ctx.now c.args.op)
    (λ o. record { operands = c.count.result; successors = c.count-2.result; results = c.count_typed.result; regions = c.count_regions.result } ≡ counts_of o (length (regions c.args.self.ctx.now.graph c.args.op)))
    (λ view e. counts_are (seen_operation g.A.IrText.written c.args.self.ctx.now c.args.op view) c.count.result c.count-2.result c.count_typed.result c.count_regions.result (length (regions c.args.self.ctx.now.graph c.args.op))
    (c.count.ensures ∙ length-map used (operand_text c.args.self.ctx.now) ∙ all_counted (number_of c.args.self.ctx.now) used (uses_defined c.args.self.ctx.now c.args.op c.keeps_operands.ensures).at)
    (c.count-2.ensures ∙ length-map blocks (λ b. Some (label_text c.args.self.ctx.now b)) ∙ sym (length-map blocks (place_of c.args.self.ctx.now)))
    (c.count_typed.ensures ∙ known_counted typed_number (λ (r : ℕ × _). g.T.IrText.written r.1) (results c.args.self.ctx.now.graph c.args.op))
    (subst (λ z. c.count_regions.result ≡ length (regions z c.args.op)) c.graph.ensures c.count_regions.ensures))
