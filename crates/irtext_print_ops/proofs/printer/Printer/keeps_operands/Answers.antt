use Rattle.irtext_print_ops.proofs.UsesDefined.{all_defined}
use Rattle.irtext_print_ops.proofs.printer.Printer.keeps_operands.Goals as goal

pub returns : goal.returns
returns g c = all_defined c.graph.result.now c.args.self.ctx.now.graph c.args.op c.graph.ensures c.keeps_nesting.ensures.uses
