use Rattle.std.proofs.Common.{ap, subst}
use Rattle.std.specs.Option.{option_map}
use Rattle.irtext_graph.specs.Parts.{IsDefinedValue}
use Rattle.irtext_graph.specs.declared.object.Defined.TheVariants.{OfValue}
use Rattle.irtext_graph.specs.declared.object.Site.TheVariants.{AtOperand}
use Rattle.irtext_print_ops.proofs.printer.Printer.operand.Goals as goal

pub returns-clause-there : goal.returns-clause-there
returns-clause-there g c = subst (λ x. IsDefinedValue x c.get_operand.result) c.graph-graph.ensures (c.keeps_nesting.ensures.uses (AtOperand c.args.op c.args.index) (OfValue c.get_operand.result) (ap (option_map OfValue) c.get_operand.ensures))
