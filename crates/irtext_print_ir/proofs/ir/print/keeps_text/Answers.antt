use Rattle.std.proofs.Common.{subst}
use Rattle.irtext_graph.specs.Graph.{children, parent}
use Rattle.irtext_graph.specs.Nested.{Nested}
use Rattle.irtext_print_ir.proofs.Printers.Gathered.{text_defined}
use Rattle.irtext_print_ir.proofs.ir.print.keeps_text.Goals as goal

pub returns : goal.returns
returns g c = λ s x sees alone none. text_defined g.T.IrText g.A.IrText g.A.AttrText g.A.PartialEq.eq c.args.ctx.now c.args.op s c.requires.live (subst (λ z. Nested (children z) (parent z)) c.graph.ensures c.keeps_nesting.ensures.forest) x sees alone none
